-- Rounds of ticks by facts of their own, up to the world in which so many are left: a run comes to it.
use Rattle.std.proofs.Common.{◌≡◌, ◌⊎◌, ℕ, zero, suc, ◌-◌, ◌≤◌, List, [], ◌∷◌, length, Bool, true, false, eqb, refl, ap, sym, subst, inl, inr, arith, None}
use Rattle.std.specs.Prelude.{⊤}
use Rattle.tg_base.specs.Clusters.{Header}
use Rattle.tg_base.specs.declared.ids.NodeId.{NodeId}
use Rattle.tg_base.specs.declared.packet.Packet.{Packet}
use Rattle.tg_kind.specs.Meaning.{Meaning}
use Rattle.tg_protocol.specs.Worlds.{World, Ran, drain, tick_all, nodes, unless_stopped, rounds, settle}
use Rattle.tg_law_finish.specs.Finish.Queues.{RisesWithin, Carries, Queue}
use Rattle.tg_law_finish.proofs.Finish.Nets.{Net, net}
use Rattle.tg_law_finish.proofs.Finish.Settles.{Facts, Keeps, Holds, Before, Ticked, drain_to, ticks_all}
use Rattle.tg_law_reconfs.proofs.Comings.{Comes, unless, first_drain}
use Rattle.tg_law_reconfs.proofs.Rounds.{Folds, Balanced, ticks_balanced, none_long, queue_none, same_long}
use Rattle.tg_law_reconfs.proofs.Tapes as tapes

module _ (m : Meaning) (k : ℕ) (h : Header) (stopped : List NodeId) (Fact : World m → Type 0) (facts : Facts m Fact (λ s y. ⊤)) where
  -- A fact of worlds, kept by ticks and by a drain.

  plain : tapes.Rules m h stopped Fact (λ r s q done. ⊤) (λ r xs s q done. ⊤) (λ s done. ⊤)
  plain = record {
    facts = facts;
    deliver = λ r w p q done f sent i. tt;
    one = λ r x xs w q done f on p. tt;
    other = λ r x xs s q done off p. tt;
    begins = λ r w q done f p. tt;
    still = λ r s done p t more i. tt;
    again = λ r w done f i. tt;
    ends = λ s done i. tt;
  }

  drains_fact : (v : World m) (q : List Packet) → Queue m v q → Fact v → v.cluster ≡ h → v.stopped ≡ stopped → (drain m v).stopped ≡ None → Fact (drain m v).world
  drains_fact v q queue f cluster stops none =
      (tapes.drains m h stopped Fact (λ r s q done. ⊤) (λ r xs s q done. ⊤) (λ s done. ⊤) v plain 0 v (record { q = q; done = []; queue = queue; since = tapes.since_none m v; inv = tt; fact = f; cluster = cluster; stops = stops }) none).fact

  ticks_fact : (v : World m) (xs : List NodeId) (q : List Packet) → Queue m v q → Fact v → v.cluster ≡ h → v.stopped ≡ stopped → (tick_all m xs v).stopped ≡ None → Fact (tick_all m xs v).world
  ticks_fact v xs q queue f cluster stops none =
      (tapes.all_tick m h stopped Fact (λ r s q done. ⊤) (λ r xs s q done. ⊤) (λ s done. ⊤) v plain 0 xs v (record { q = q; done = []; queue = queue; since = tapes.since_none m v; pre = tt; fact = f; cluster = cluster; stops = stops }) none).fact

  -- What is to hold in the end: of the nodes where a round's ticks send nothing, and where so many rounds are left.
  module _ (Inv Fresh : ℕ → Net m → List Packet → ℕ → Type 0) (Pre : ℕ → List NodeId → Net m → List Packet → ℕ → Type 0) (End : Net m → ℕ → Type 0) (f : Folds m k h stopped Inv Fresh Pre End) (Goal : World m → Type 0) (Quits : Net m → Type 0)
      (stills : (r : ℕ) (s : Net m) (n : ℕ) → Fresh r s [] n → Quits s) (quits : (v : World m) → v.cluster ≡ h → Quits (net m v) → Goal v) where
    abbrev Come : Ran m → Type 0
    Come r = Comes m Goal r

    abbrev Still : Net m → List Packet → ℕ → Type 0
    Still s q n = (q ≡ []) × Quits s

    still_keeps : Keeps m k h stopped Still
    still_keeps s p q n x = absurd (never p q x.0)
      where
        never : (p : Packet) (q : List Packet) → p ∷ q ≡ [] → ⊥
        never p q e = cc

    abbrev after_ticks : ℕ → World m → Bool → Ran m
    after_ticks r v b = elim b as (λ _. Ran m) [ true ↦ drain m v | false ↦ unless_stopped m (drain m v) (λ u. rounds m r u) ]

    abbrev pub Rest : ℕ → Type 0
    Rest r = (u : World m) (left : ℕ) → Fact u → Holds m k h stopped (Inv r) u [] left → Come (rounds m r u)

    after : (r n : ℕ) (w v : World m) (b : Bool) → eqb (length v.packets) (length w.packets) ≡ b → w.waiting ≡ [] → Balanced m w v → Fact v → Ticked m k h stopped (Fresh r) (Pre r) w v n → Rest r → Come (after_ticks r v b)
    unfolding Balanced
    after r n w v true e quiet even fact t rest = λ none.
        let long = same_long (length v.packets) (length w.packets) e in
        let zero' = ap (λ (is : List ℕ). length is) quiet in
        let none' = none_long m v.waiting (omega (arith, long, zero', even)) in
        let is = queue_none m v t.q none' t.holds.queue in
        let d = drain_to m k h stopped Still still_keeps v n [] (record { queue = subst (λ (q : List Packet). Queue m v q) is t.holds.queue; inv = (refl, stills r (net m v) n (subst (λ (q : List Packet). Fresh r (net m v) q n) is t.holds.inv)); cluster = t.holds.cluster; stops = t.holds.stops }) none in
        quits (drain m v).world d.holds.cluster d.holds.inv.1
    after r n w v false e quiet even fact t rest = unless m Goal (drain m v) (λ u. rounds m r u) (drain m v).stopped refl (λ calm.
        let d = drain_to m k h stopped (Inv r) (f.keeps r) v n t.q (record { queue = t.holds.queue; inv = f.begins r (net m v) t.q n t.holds.inv; cluster = t.holds.cluster; stops = t.holds.stops }) calm in
        rest (drain m v).world d.left (drains_fact v t.q t.holds.queue fact t.holds.cluster t.holds.stops calm) d.holds)

    round : (r : ℕ) (w : World m) (n : ℕ) → w.waiting ≡ [] → Fact w → Before m k h stopped (Fresh r) (Pre r) (nodes m w) w [] n → Rest r → Come (rounds m (suc r) w)
    unfolding rounds
    round r w n quiet fact b rest = unless m Goal (tick_all m (nodes m w) w) (λ v. after_ticks r v (eqb (length v.packets) (length w.packets))) (tick_all m (nodes m w) w).stopped refl (λ none.
        let v = (tick_all m (nodes m w) w).world in
        let t = ticks_all m k h stopped (Fresh r) (Pre r) (f.ticking r) (nodes m w) w [] n b none in
        after r n w v (eqb (length v.packets) (length w.packets)) refl quiet (ticks_balanced m (nodes m w) w) (ticks_fact w (nodes m w) [] b.queue fact b.cluster b.stops none) t rest)

    pub none_wait : (w : World m) → Queue m w [] → w.waiting ≡ []
    none_wait w queue = by w.waiting queue.carries
      where
        by : (is : List ℕ) → Carries w.packets is [] → is ≡ []
        by [] c = refl
        by (i ∷ is) c = absurd c

    which : (a r : ℕ) → a ≤ suc r → (a ≡ suc r) ⊎ (a ≤ r)
    which a r le = grind (arith, le)

    -- down to a round
    rounds_on : (last : ℕ) → Rest last → (r : ℕ) → last ≤ r → Rest r
    rounds_on last rest zero le = subst Rest (omega (arith, le)) rest
    rounds_on last rest (suc r) le = by (which last r le) (λ more. rounds_on last rest r more)
      where
        by : (last ≡ suc r) ⊎ (last ≤ r) → (last ≤ r → Rest r) → Rest (suc r)
        by (inl e) on = subst Rest e rest
        by (inr more) on = λ u n fact x. round r u n (none_wait u x.queue) fact (record { queue = x.queue; pre = f.again r u n x.inv; cluster = x.cluster; stops = x.stops }) (on more)

    -- what a settling of a quiet world comes to
    pub settle_comes : (w : World m) (n last : ℕ) → last ≤ 7 → w.waiting ≡ [] → Fact w → Pre 7 (nodes m w) (net m w) [] n → w.cluster ≡ h → w.stopped ≡ stopped → Rest last → Come (settle m w)
    unfolding settle drain
    settle_comes w n last seven quiet fact pre cluster stops rest = first_drain m Goal (200001 - w.steps) w (λ v. rounds m 8 v) quiet (omega arith)
        (round 7 w n quiet fact (record { queue = record { rises = subst (λ is. RisesWithin 0 is (length w.packets)) (sym quiet) (omega arith); carries = subst (λ is. Carries w.packets is []) (sym quiet) tt }; pre = pre; cluster = cluster; stops = stops }) (rounds_on last rest 7 seven))
