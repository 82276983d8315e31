-- Rounds of ticks, with a fact of their own for each: what they come to when all are over.
use Rattle.std.proofs.Common.{◌≡◌, ℕ, zero, suc, ◌+◌, ◌-◌, List, [], ◌∷◌, length, Bool, true, false, eqb, refl, ap, sym, subst, arith, Some, None, Option, length-append}
use Rattle.tg_base.specs.Clusters.{Header}
use Rattle.tg_base.specs.declared.fault.Which.{Which}
use Rattle.tg_base.specs.declared.ids.NodeId.{NodeId}
use Rattle.tg_base.specs.declared.packet.Packet.{Packet}
use Rattle.tg_kind.specs.Meaning.{Meaning}
use Rattle.tg_model.specs.declared.command.Event.TheVariants.{Tick}
use Rattle.tg_protocol.specs.Words.{numbers}
use Rattle.tg_protocol.specs.Worlds.{World, runs, happens, Ran, drain, tick_all, nodes, unless_stopped, rounds, settle, limit_of}
use Rattle.tg_law_finish.specs.Finish.Queues.{RisesWithin, Carries, Queue}
use Rattle.tg_law_finish.proofs.Finish.Nets.{Net, net, sent_ticked, one_ticked}
use Rattle.tg_law_finish.proofs.Finish.Settles.{spent_none, Keeps, Holds, Ticking, Before, Ticked, Spent, spent_then, drain_to, ticks_all}
use Rattle.tg_law_reconfs.proofs.Comings.{unless, first_drain}

long_numbers : (n a : ℕ) → length (numbers n a) ≡ n
long_numbers zero a = refl
long_numbers (suc n) a = ap suc (long_numbers n (a + 1))

pub same_long : (a b : ℕ) → eqb a b ≡ true → a ≡ b
same_long a b e = grind arith

module _ (m : Meaning) where
  -- as many packets wait more as were sent
  unfoldable pub Balanced : World m → World m → Type 0
  Balanced w v = length v.waiting + length w.packets ≡ length w.waiting + length v.packets

  one_balanced : (w : World m) (x : NodeId) → runs m w x ≡ true → Balanced w (happens m w (Tick x))
  unfolding Balanced
  one_balanced w x on =
      let l = one_ticked m w x on in
      let sent = sent_ticked m w.cluster (net m w) x.num x.role in
      let a = ap (λ (is : List ℕ). length is) l.waiting in
      let b = ap (λ (ps : List Packet). length ps) l.packets in
      let c = length-append w.waiting (numbers (length sent) (length w.packets)) in
      let d = length-append w.packets sent in
      let e = long_numbers (length sent) (length w.packets) in
      omega (arith, a, b, c, d, e)

  balanced_then : (w v u : World m) → Balanced w v → Balanced v u → Balanced w u
  unfolding Balanced
  balanced_then w v u a b = omega (arith, a, b)

  same_balanced : (w : World m) → Balanced w w
  unfolding Balanced
  same_balanced w = omega arith

  by_limit : (w : World m) (next : Ran m) (o : Option Which) → Balanced w next.world → Balanced w (elim o as (λ _. Ran m) [ Some y ↦ record { world = w; stopped = Some y } | None ↦ next ]).world
  by_limit w next None e = e
  by_limit w next (Some y) e = same_balanced w

  if_runs : (x : NodeId) (xs : List NodeId) (w : World m) (b : Bool) → runs m w x ≡ b → ((v : World m) → Balanced v (tick_all m xs v).world) → Balanced w (elim b as (λ _. Ran m) [
    | false ↦ tick_all m xs w
    | true ↦ elim (limit_of m w) as (λ _. Ran m) [ Some y ↦ record { world = w; stopped = Some y } | None ↦ tick_all m xs (happens m w (Tick x)) ]
  ]).world
  if_runs x xs w false e rest = rest w
  if_runs x xs w true e rest = by_limit w (tick_all m xs (happens m w (Tick x))) (limit_of m w) (balanced_then w (happens m w (Tick x)) _ (one_balanced w x e) (rest (happens m w (Tick x))))

  pub ticks_balanced : (xs : List NodeId) (w : World m) → Balanced w (tick_all m xs w).world
  unfolding tick_all
  ticks_balanced [] w = same_balanced w
  ticks_balanced (x ∷ xs) w = if_runs x xs w (runs m w x) refl (λ v. ticks_balanced xs v)

  pub none_long : (xs : List ℕ) → length xs ≡ 0 → xs ≡ []
  none_long [] e = refl
  none_long (x ∷ xs) e = absurd (omega (arith, e))

  pub queue_none : (w : World m) (q : List Packet) → w.waiting ≡ [] → Queue m w q → q ≡ []
  queue_none w q e queue = by q (subst (λ is. Carries w.packets is q) e queue.carries)
    where
      by : (q : List Packet) → Carries w.packets [] q → q ≡ []
      by [] c = refl
      by (p ∷ q) c = absurd c

  -- By how many rounds are left: what holds along a drain, right after the ticks, and of nodes that haven't ticked yet; and what is to hold in the end.
  module _ (k : ℕ) (h : Header) (stopped : List NodeId) (Inv Fresh : ℕ → Net m → List Packet → ℕ → Type 0) (Pre : ℕ → List NodeId → Net m → List Packet → ℕ → Type 0) (End : Net m → ℕ → Type 0) where
    pub record Folds : Type 0 where
      pub keeps : (r : ℕ) → Keeps m k h stopped (Inv r)
      pub ticking : (r : ℕ) → Ticking m k h stopped (Fresh r) (Pre r)
      pub begins : (r : ℕ) (s : Net m) (q : List Packet) (n : ℕ) → Fresh r s q n → Inv r s q n
      -- where the ticks sent nothing
      pub still : (r : ℕ) (s : Net m) (n : ℕ) → Fresh r s [] n → End s n
      pub again : (r : ℕ) (w : World m) (n : ℕ) → Inv (suc r) (net m w) [] n → Pre r (nodes m w) (net m w) [] n
      pub ends : (s : Net m) (n : ℕ) → Inv 0 s [] n → End s n

    pub record Ended (w v : World m) (n : ℕ) : Type 0 where
      pub left : ℕ
      pub end : End (net m v) left
      pub spent : Spent m k w v n left
      pub cluster : v.cluster ≡ h
      pub stops : v.stopped ≡ stopped

    abbrev pub EndsIn : World m → ℕ → Ran m → Type 0
    EndsIn w n r = r.stopped ≡ None → Ended w r.world n

    ended_later : (w v u : World m) (n left : ℕ) → Spent m k w v n left → Ended v u left → Ended w u n
    ended_later w v u n left a b = record { left = b.left; end = b.end; spent = spent_then m k w v u n left b.left a b.spent; cluster = b.cluster; stops = b.stops }

    -- what it comes to from a world
    abbrev To : World m → ℕ → World m → Type 0
    To w n v = Ended w v n

    abbrev Still : Net m → List Packet → ℕ → Type 0
    Still s q n = (q ≡ []) × End s n

    still_keeps : Keeps m k h stopped Still
    still_keeps s p q n x = absurd (never p q x.0)
      where
        never : (p : Packet) (q : List Packet) → p ∷ q ≡ [] → ⊥
        never p q e = cc

    abbrev after_ticks : ℕ → World m → Bool → Ran m
    after_ticks r v b = elim b as (λ _. Ran m) [ true ↦ drain m v | false ↦ unless_stopped m (drain m v) (λ u. rounds m r u) ]

    module _ (f : Folds) where
      after : (r n : ℕ) (w v : World m) (b : Bool) → eqb (length v.packets) (length w.packets) ≡ b → w.waiting ≡ [] → Balanced w v → Ticked m k h stopped (Fresh r) (Pre r) w v n
          → ((u : World m) (left : ℕ) → Holds m k h stopped (Inv r) u [] left → EndsIn u left (rounds m r u)) → EndsIn v n (after_ticks r v b)
      unfolding Balanced
      after r n w v true e quiet even t rest = λ none.
          let long = same_long (length v.packets) (length w.packets) e in
          let zero' = ap (λ (is : List ℕ). length is) quiet in
          let none' = none_long v.waiting (omega (arith, long, zero', even)) in
          let is = queue_none v t.q none' t.holds.queue in
          let d = drain_to m k h stopped Still still_keeps v n [] (record { queue = subst (λ (q : List Packet). Queue m v q) is t.holds.queue; inv = (refl, f.still r (net m v) n (subst (λ (q : List Packet). Fresh r (net m v) q n) is t.holds.inv)); cluster = t.holds.cluster; stops = t.holds.stops }) none in
          record { left = d.left; end = d.holds.inv.1; spent = d.spent; cluster = d.holds.cluster; stops = d.holds.stops }
      after r n w v false e quiet even t rest = unless m (To v n) (drain m v) (λ u. rounds m r u) (drain m v).stopped refl (λ calm.
          let d = drain_to m k h stopped (Inv r) (f.keeps r) v n t.q (record { queue = t.holds.queue; inv = f.begins r (net m v) t.q n t.holds.inv; cluster = t.holds.cluster; stops = t.holds.stops }) calm in
          λ none. ended_later v _ _ n d.left d.spent (rest (drain m v).world d.left d.holds none))

      -- a world whose nodes may tick
      pub round : (r : ℕ) (w : World m) (n : ℕ) → w.waiting ≡ [] → Before m k h stopped (Fresh r) (Pre r) (nodes m w) w [] n → ((u : World m) (left : ℕ) → Holds m k h stopped (Inv r) u [] left → EndsIn u left (rounds m r u)) → EndsIn w n (rounds m (suc r) w)
      unfolding rounds
      round r w n quiet b rest = unless m (To w n) (tick_all m (nodes m w) w) (λ v. after_ticks r v (eqb (length v.packets) (length w.packets))) (tick_all m (nodes m w) w).stopped refl (λ none.
          let v = (tick_all m (nodes m w) w).world in
          let t = ticks_all m k h stopped (Fresh r) (Pre r) (f.ticking r) (nodes m w) w [] n b none in
          λ still. ended_later w v _ n n t.spent (after r n w v (eqb (length v.packets) (length w.packets)) refl quiet (ticks_balanced (nodes m w) w) t rest still))

      none_wait : (w : World m) → Queue m w [] → w.waiting ≡ []
      none_wait w queue = by w.waiting queue.carries
        where
          by : (is : List ℕ) → Carries w.packets is [] → is ≡ []
          by [] c = refl
          by (i ∷ is) c = absurd c

      -- so many rounds
      pub rounds_end : (r : ℕ) (w : World m) (n : ℕ) → Holds m k h stopped (Inv r) w [] n → EndsIn w n (rounds m r w)
      unfolding rounds
      rounds_end zero w n x = λ none. record { left = n; end = f.ends (net m w) n x.inv; spent = spent_none m k w n; cluster = x.cluster; stops = x.stops }
      rounds_end (suc r) w n x = round r w n (none_wait w x.queue) (record { queue = x.queue; pre = f.again r w n x.inv; cluster = x.cluster; stops = x.stops }) (λ u left y. rounds_end r u left y)

      -- what a settling of a quiet world comes to
      pub settle_ends : (w : World m) (n : ℕ) → w.waiting ≡ [] → Pre 7 (nodes m w) (net m w) [] n → w.cluster ≡ h → w.stopped ≡ stopped → EndsIn w n (settle m w)
      unfolding settle drain
      settle_ends w n quiet pre cluster stops = first_drain m (To w n) (200001 - w.steps) w (λ v. rounds m 8 v) quiet (omega arith)
          (round 7 w n quiet (record { queue = record { rises = subst (λ is. RisesWithin 0 is (length w.packets)) (sym quiet) (omega arith); carries = subst (λ is. Carries w.packets is []) (sym quiet) tt }; pre = pre; cluster = cluster; stops = stops }) (λ u left y. rounds_end 7 u left y))
