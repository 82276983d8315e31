-- A settling by facts of nodes, of the packets that wait and of those that were delivered, in worlds to which a run comes.
use Rattle.std.proofs.Common.{◌≡◌, ℕ, zero, suc, ◌+◌, ◌-◌, ◌≤◌, List, [], ◌∷◌, ◌++◌, length, filter, cond, Bool, true, false, eqb, refl, ap, ◌∙◌, sym, subst, inl, inr, arith, Some, None, Option}
use Rattle.std.specs.Prelude.{slice_get, ⊤}
use Rattle.tg_base.specs.Clusters.{Header}
use Rattle.tg_base.specs.declared.fault.Which.{Which}
use Rattle.tg_base.specs.declared.ids.NodeId.{NodeId}
use Rattle.tg_base.specs.declared.packet.Packet.{Packet}
use Rattle.tg_kind.specs.Meaning.{Meaning}
use Rattle.tg_model.specs.declared.command.Event.TheVariants.{Deliver, Tick}
use Rattle.tg_protocol.specs.Worlds.{World, runs, happens, Ran, drain_on, drain, tick_all, nodes, unless_stopped, rounds, settle, limit_of, lowest}
use Rattle.tg_protocol.specs.Finishing.{passes, deliveries}
use Rattle.tg_law_layouts.proofs.Moves.Members.{Has, has_got}
use Rattle.tg_law_finish.specs.Finish.Queues.{RisesWithin, Carries, Queue}
use Rattle.tg_law_finish.proofs.Finish.Counted.{one_if}
use Rattle.tg_law_finish.proofs.Finish.Nets.{got_more, Net, net, net_if, sent_if, net_ticked, sent_ticked, on_in, runs_on, happens_counts, Later, first_delivered, later_queue, one_ticked}
use Rattle.tg_law_finish.proofs.Finish.Settles.{Facts}
use Rattle.tg_law_reconfs.proofs.Counts.{front_of}
use Rattle.tg_law_reconfs.proofs.Comings.{some_none, at_limit, unless, first_drain}
use Rattle.tg_law_reconfs.proofs.Rounds.{Balanced, ticks_balanced, none_long, queue_none, same_long}

-- the sum of what packets weigh
unfoldable pub sum_by : (Packet → ℕ) → List Packet → ℕ
sum_by f [] = 0
sum_by f (x ∷ q) = f x + sum_by f q

pub sum_both : (f : Packet → ℕ) (q r : List Packet) → sum_by f (q ++ r) ≡ sum_by f q + sum_by f r
unfolding sum_by
sum_both f [] r = omega arith
sum_both f (x ∷ q) r = let e = sum_both f q r in omega (arith, e)

pub same_append : (xs : List Packet) (y : Packet) (ys zs : List Packet) → (xs ++ y ∷ ys) ++ zs ≡ xs ++ y ∷ (ys ++ zs)
same_append [] y ys zs = refl
same_append (x ∷ xs) y ys zs = ap (λ (l : List Packet). x ∷ l) (same_append xs y ys zs)

carried_on : (ps more : List Packet) (is : List ℕ) (q : List Packet) → Carries ps is q → Carries (ps ++ more) is q
carried_on ps more [] [] c = c
carried_on ps more [] (p ∷ q) c = absurd c
carried_on ps more (i ∷ is) [] c = absurd c
carried_on ps more (i ∷ is) (p ∷ q) c = (got_more ps more i p c.0, carried_on ps more is q c.1)

-- what waits was sent
carried_has : (ps : List Packet) (is : List ℕ) (q : List Packet) (x : Packet) → Carries ps is q → Has q x → Has ps x
carried_has ps [] [] x c h = absurd h
carried_has ps [] (p ∷ q) x c h = absurd c
carried_has ps (i ∷ is) [] x c h = absurd c
carried_has ps (i ∷ is) (p ∷ q) x c (inl e) = subst (λ (y : Packet). Has ps y) (sym e) (has_got ps i p c.0)
carried_has ps (i ∷ is) (p ∷ q) x c (inr h) = carried_has ps is q x c.1 h

long_if : (b : Bool) (i : ℕ) (is : List ℕ) → length (cond b (i ∷ is) is) ≡ one_if b + length is
long_if true i is = omega arith
long_if false i is = omega arith

module _ (m : Meaning) where
  -- what was delivered from one world to a later one, the last one first
  pub record Since (w v : World m) (done : List Packet) : Type 0 where
    pub is : List ℕ
    pub delivered : v.delivered ≡ is ++ w.delivered
    pub carries : Carries v.packets is done

  counted_by : (f : Packet → Bool) (ps : List Packet) (is : List ℕ) (done : List Packet) → Carries ps is done → length (filter (λ i. passes m f (slice_get ps i)) is) ≡ sum_by (λ x. one_if (f x)) done
  unfolding sum_by
  counted_by f ps [] [] c = refl
  counted_by f ps [] (p ∷ done) c = absurd c
  counted_by f ps (i ∷ is) [] c = absurd c
  counted_by f ps (i ∷ is) (p ∷ done) c =
      let a = counted_by f ps is done c.1 in
      let b = ap (λ o. one_if (passes m f o)) c.0 in
      let l : length (filter (λ j. passes m f (slice_get ps j)) (i ∷ is)) ≡ one_if (passes m f (slice_get ps i)) + length (filter (λ j. passes m f (slice_get ps j)) is) = long_if (passes m f (slice_get ps i)) i (filter (λ j. passes m f (slice_get ps j)) is) in
      omega (arith, a, b, l)

  pub deliveries_are : (f : Packet → Bool) (w v : World m) (done : List Packet) → Since w v done → deliveries m f w v ≡ sum_by (λ x. one_if (f x)) done
  deliveries_are f w v done s = subst (λ (is : List ℕ). length (filter (λ i. passes m f (slice_get v.packets i)) is) ≡ sum_by (λ x. one_if (f x)) done) (sym (front_of s.is w.delivered v.delivered s.delivered)) (counted_by f v.packets s.is done s.carries)

  pub since_none : (w : World m) → Since w w []
  since_none w = record { is = []; delivered = refl; carries = tt }

  -- a delivery, and a tick
  since_one : (w v u : World m) (i : ℕ) (js : List ℕ) (p : Packet) (done sent : List Packet) (s : Net m) → Since w v done → slice_get v.packets i ≡ Some p → Later m v u js (i ∷ []) s sent → Since w u (p ∷ done)
  since_one w v u i js p done sent s a got l = record {
    is = i ∷ a.is;
    delivered = l.delivered ∙ ap (λ (is : List ℕ). i ∷ is) a.delivered;
    carries = subst (λ (ps : List Packet). Carries ps (i ∷ a.is) (p ∷ done)) (sym l.packets) (carried_on v.packets sent (i ∷ a.is) (p ∷ done) (got, a.carries));
  }

  since_tick : (w v u : World m) (js : List ℕ) (done sent : List Packet) (s : Net m) → Since w v done → Later m v u js [] s sent → Since w u done
  since_tick w v u js done sent s a l = record { is = a.is; delivered = l.delivered ∙ a.delivered; carries = subst (λ (ps : List Packet). Carries ps a.is done) (sym l.packets) (carried_on v.packets sent a.is done a.carries) }

  -- By how many rounds are left: what holds along a drain, and of nodes that haven't ticked yet; and what is to hold in the end.
  module _ (h : Header) (stopped : List NodeId) (Fact : World m → Type 0) (Inv : ℕ → Net m → List Packet → List Packet → Type 0) (Pre : ℕ → List NodeId → Net m → List Packet → List Packet → Type 0) (End : Net m → List Packet → Type 0) where
    pub record Rules : Type 0 where
      pub facts : Facts m Fact (λ s y. ⊤)
      pub deliver : (r : ℕ) (w : World m) (p : Packet) (q done : List Packet) → Fact w → ((x : Packet) → Has (p ∷ q) x → Has w.packets x) → Inv r (net m w) (p ∷ q) done
          → Inv r (net_if m (on_in m stopped (net m w) p.to) h (net m w) p) (q ++ sent_if m (on_in m stopped (net m w) p.to) h (net m w) p) (p ∷ done)
      pub one : (r : ℕ) (x : NodeId) (xs : List NodeId) (w : World m) (q done : List Packet) → Fact w → on_in m stopped (net m w) x ≡ true → Pre r (x ∷ xs) (net m w) q done
          → Pre r xs (net_ticked m h (net m w) x.num x.role) (q ++ sent_ticked m h (net m w) x.num x.role) done
      pub other : (r : ℕ) (x : NodeId) (xs : List NodeId) (s : Net m) (q done : List Packet) → on_in m stopped s x ≡ false → Pre r (x ∷ xs) s q done → Pre r xs s q done
      pub begins : (r : ℕ) (w : World m) (q done : List Packet) → Fact w → Pre r [] (net m w) q done → Inv r (net m w) q done
      -- where the ticks sent nothing
      pub still : (r : ℕ) (s : Net m) (done : List Packet) → Pre r [] s [] done → (t : Net m) (more : List Packet) → Inv r t [] more → End t more
      pub again : (r : ℕ) (w : World m) (done : List Packet) → Fact w → Inv (suc r) (net m w) [] done → Pre r (nodes m w) (net m w) [] done
      pub ends : (s : Net m) (done : List Packet) → Inv 0 s [] done → End s done

    module _ (base : World m) where
      pub record Along (r : ℕ) (v : World m) : Type 0 where
        pub q : List Packet
        pub done : List Packet
        pub queue : Queue m v q
        pub since : Since base v done
        pub inv : Inv r (net m v) q done
        pub fact : Fact v
        pub cluster : v.cluster ≡ h
        pub stops : v.stopped ≡ stopped

      pub record Ticking (r : ℕ) (xs : List NodeId) (v : World m) : Type 0 where
        pub q : List Packet
        pub done : List Packet
        pub queue : Queue m v q
        pub since : Since base v done
        pub pre : Pre r xs (net m v) q done
        pub fact : Fact v
        pub cluster : v.cluster ≡ h
        pub stops : v.stopped ≡ stopped

      -- with nothing on its way
      pub record Calm (r : ℕ) (v : World m) : Type 0 where
        pub done : List Packet
        pub since : Since base v done
        pub inv : Inv r (net m v) [] done
        pub fact : Fact v
        pub cluster : v.cluster ≡ h
        pub stops : v.stopped ≡ stopped
        pub quiet : v.waiting ≡ []

      pub record Ended (v : World m) : Type 0 where
        pub done : List Packet
        pub since : Since base v done
        pub end : End (net m v) done
        pub fact : Fact v
        pub cluster : v.cluster ≡ h

      abbrev pub EndsIn : Ran m → Type 0
      EndsIn r = r.stopped ≡ None → Ended r.world

      weaker : (lo hi : ℕ) (is : List ℕ) → RisesWithin lo is hi → RisesWithin 0 is hi
      weaker lo hi [] r = omega arith
      weaker lo hi (i ∷ is) r = (omega arith, r.1)

      running : (w : World m) (x : NodeId) → w.stopped ≡ stopped → runs m w x ≡ on_in m stopped (net m w) x
      running w x e = runs_on m w x ∙ ap (λ (y : List NodeId). on_in m y (net m w) x) e

      calm_of : (r : ℕ) (v : World m) → v.waiting ≡ [] → Along r v → Calm r v
      calm_of r v quiet a = record { done = a.done; since = a.since; inv = subst (λ (q : List Packet). Inv r (net m v) q a.done) (queue_none m v a.q quiet a.queue) a.inv; fact = a.fact; cluster = a.cluster; stops = a.stops; quiet = quiet }

      module _ (f : Rules) where
        delivered : (r : ℕ) (v : World m) (i : ℕ) (is : List ℕ) (p : Packet) (q done : List Packet) → v.waiting ≡ i ∷ is → limit_of m v ≡ None → Queue m v (p ∷ q) → Since base v done → Inv r (net m v) (p ∷ q) done → Fact v → v.cluster ≡ h → v.stopped ≡ stopped
            → Along r (happens m v (Deliver i))
        delivered r v i is p q done e free queue since inv fact cluster stops =
            let u = happens m v (Deliver i) in
            let b = on_in m stopped (net m v) p.to in
            let l = subst (λ (c : Header). Later m v u is (i ∷ []) (net_if m b c (net m v) p) (sent_if m b c (net m v) p)) cluster
            (subst (λ (c : Bool). Later m v u is (i ∷ []) (net_if m c v.cluster (net m v) p) (sent_if m c v.cluster (net m v) p)) (running v p.to stops) (first_delivered m v i is p q e queue)) in
            let c = subst (λ js. Carries v.packets js (p ∷ q)) e queue.carries in
            let rises = subst (λ js. RisesWithin 0 js (length v.packets)) e queue.rises in
            record {
              q = q ++ sent_if m b h (net m v) p;
              done = p ∷ done;
              queue = later_queue m v u is (i ∷ []) _ _ q (weaker (suc i) (length v.packets) is rises.1) c.1 l;
              since = since_one base v u i is p done _ _ since c.0 l;
              inv = subst (λ (s : Net m). Inv r s (q ++ sent_if m b h (net m v) p) (p ∷ done)) (sym l.nodes) (f.deliver r v p q done fact (λ x has. carried_has v.packets (i ∷ is) (p ∷ q) x c has) inv);
              fact = f.facts.delivered v i free fact;
              cluster = l.cluster ∙ cluster;
              stops = l.stopped ∙ stops;
            }

        next : (r : ℕ) (v : World m) (i : ℕ) (is : List ℕ) → v.waiting ≡ i ∷ is → limit_of m v ≡ None → Along r v → Along r (happens m v (Deliver i))
        next r v i is e free a = by a.q a.queue a.inv
          where
            by : (q : List Packet) → Queue m v q → Inv r (net m v) q a.done → Along r (happens m v (Deliver i))
            by [] queue inv = absurd (subst (λ js. Carries v.packets js []) e queue.carries)
            by (p ∷ q) queue inv = delivered r v i is p q a.done e free queue a.since inv a.fact a.cluster a.stops

        abbrev pub DrainsTo : ℕ → Ran m → Type 0
        DrainsTo r x = x.stopped ≡ None → Calm r x.world

        by_limit : (r : ℕ) (w : World m) (x : Ran m) (o : Option Which) → limit_of m w ≡ o → (limit_of m w ≡ None → DrainsTo r x) → DrainsTo r (elim o as (λ _. Ran m) [ Some y ↦ record { world = w; stopped = Some y } | None ↦ x ])
        by_limit r w x None e t = t e
        by_limit r w x (Some y) e t = λ none. absurd (some_none y none)

        by_lowest : (r fuel : ℕ) (w : World m) → Along r w → (is : List ℕ) → w.waiting ≡ is → ((i : ℕ) (js : List ℕ) → w.waiting ≡ i ∷ js → limit_of m w ≡ None → DrainsTo r (drain_on m fuel (happens m w (Deliver i)))) → DrainsTo r (elim (lowest m is) as (λ _. Ran m) [
          | None ↦ record { world = w; stopped = None }
          | Some i ↦ elim (limit_of m w) as (λ _. Ran m) [ Some x ↦ record { world = w; stopped = Some x } | None ↦ drain_on m fuel (happens m w (Deliver i)) ]
        ])
        by_lowest r fuel w a [] e t = λ none. calm_of r w e a
        by_lowest r fuel w a (i ∷ is) e t = by_limit r w (drain_on m fuel (happens m w (Deliver i))) (limit_of m w) refl (t i is e)

        drains_on : (r fuel : ℕ) (w : World m) → 200001 ≤ fuel + w.steps → Along r w → DrainsTo r (drain_on m fuel w)
        unfolding drain_on
        drains_on r zero w le a = λ none. absurd (at_limit m w (omega (arith, le)) none)
        drains_on r (suc fuel) w le a = by_lowest r fuel w a w.waiting refl (λ i js e free. drains_on r fuel (happens m w (Deliver i)) (let c = happens_counts m w i in omega (arith, le, c)) (next r w i js e free a))

        pub drains : (r : ℕ) (w : World m) → Along r w → DrainsTo r (drain m w)
        unfolding drain
        drains r w a = drains_on r (200001 - w.steps) w (omega arith) a

        -- Ticks.

        ticked : (r : ℕ) (w : World m) (x : NodeId) (xs : List NodeId) → runs m w x ≡ true → limit_of m w ≡ None → Ticking r (x ∷ xs) w → Ticking r xs (happens m w (Tick x))
        ticked r w x xs e free t =
            let v = happens m w (Tick x) in
            let l = subst (λ (c : Header). Later m w v w.waiting [] (net_ticked m c (net m w) x.num x.role) (sent_ticked m c (net m w) x.num x.role)) t.cluster (one_ticked m w x e) in
            record {
              q = t.q ++ sent_ticked m h (net m w) x.num x.role;
              done = t.done;
              queue = later_queue m w v w.waiting [] _ _ t.q t.queue.rises t.queue.carries l;
              since = since_tick base w v w.waiting t.done _ _ t.since l;
              pre = subst (λ (s : Net m). Pre r xs s (t.q ++ sent_ticked m h (net m w) x.num x.role) t.done) (sym l.nodes) (f.one r x xs w t.q t.done t.fact (sym (running w x t.stops) ∙ e) t.pre);
              fact = f.facts.ticked w x e free t.fact;
              cluster = l.cluster ∙ t.cluster;
              stops = l.stopped ∙ t.stops;
            }

        abbrev pub TicksTo : ℕ → Ran m → Type 0
        TicksTo r x = x.stopped ≡ None → Ticking r [] x.world

        ticks_limit : (r : ℕ) (w : World m) (x : Ran m) (o : Option Which) → limit_of m w ≡ o → (limit_of m w ≡ None → TicksTo r x) → TicksTo r (elim o as (λ _. Ran m) [ Some y ↦ record { world = w; stopped = Some y } | None ↦ x ])
        ticks_limit r w x None e t = t e
        ticks_limit r w x (Some y) e t = λ none. absurd (some_none y none)

        if_runs : (r : ℕ) (w : World m) (x : NodeId) (xs : List NodeId) (b : Bool) → runs m w x ≡ b → Ticking r (x ∷ xs) w → ((v : World m) → Ticking r xs v → TicksTo r (tick_all m xs v)) → TicksTo r (elim b as (λ _. Ran m) [
          | false ↦ tick_all m xs w
          | true ↦ elim (limit_of m w) as (λ _. Ran m) [ Some y ↦ record { world = w; stopped = Some y } | None ↦ tick_all m xs (happens m w (Tick x)) ]
        ])
        if_runs r w x xs false e t rest = rest w (record { q = t.q; done = t.done; queue = t.queue; since = t.since; pre = f.other r x xs (net m w) t.q t.done (sym (running w x t.stops) ∙ e) t.pre; fact = t.fact; cluster = t.cluster; stops = t.stops })
        if_runs r w x xs true e t rest = ticks_limit r w (tick_all m xs (happens m w (Tick x))) (limit_of m w) refl (λ free. rest (happens m w (Tick x)) (ticked r w x xs e free t))

        pub all_tick : (r : ℕ) (xs : List NodeId) (w : World m) → Ticking r xs w → TicksTo r (tick_all m xs w)
        unfolding tick_all
        all_tick r [] w t = λ none. t
        all_tick r (x ∷ xs) w t = if_runs r w x xs (runs m w x) refl t (λ v y. all_tick r xs v y)

        -- Rounds.

        abbrev after_ticks : ℕ → World m → Bool → Ran m
        after_ticks r v b = elim b as (λ _. Ran m) [ true ↦ drain m v | false ↦ unless_stopped m (drain m v) (λ u. rounds m r u) ]

        along : (r : ℕ) (v : World m) → Ticking r [] v → Along r v
        along r v t = record { q = t.q; done = t.done; queue = t.queue; since = t.since; inv = f.begins r v t.q t.done t.fact t.pre; fact = t.fact; cluster = t.cluster; stops = t.stops }

        ended : (v : World m) (done : List Packet) → Since base v done → End (net m v) done → Fact v → v.cluster ≡ h → Ended v
        ended v done since end fact cluster = record { done = done; since = since; end = end; fact = fact; cluster = cluster }

        after : (r : ℕ) (w v : World m) (b : Bool) → eqb (length v.packets) (length w.packets) ≡ b → w.waiting ≡ [] → Balanced m w v → Ticking r [] v → ((u : World m) → Calm r u → EndsIn (rounds m r u)) → EndsIn (after_ticks r v b)
        unfolding Balanced
        after r w v true e quiet even t rest = λ none.
            let long = same_long (length v.packets) (length w.packets) e in
            let zero' = ap (λ (is : List ℕ). length is) quiet in
            let none' = none_long m v.waiting (omega (arith, long, zero', even)) in
            let is = queue_none m v t.q none' t.queue in
            let c = drains r v (along r v t) none in
            ended (drain m v).world c.done c.since (f.still r (net m v) t.done (subst (λ (q : List Packet). Pre r [] (net m v) q t.done) is t.pre) (net m (drain m v).world) c.done c.inv) c.fact c.cluster
        after r w v false e quiet even t rest = unless m Ended (drain m v) (λ u. rounds m r u) (drain m v).stopped refl (λ calm. rest (drain m v).world (drains r v (along r v t) calm))

        round : (r : ℕ) (w : World m) → w.waiting ≡ [] → Ticking r (nodes m w) w → ((u : World m) → Calm r u → EndsIn (rounds m r u)) → EndsIn (rounds m (suc r) w)
        unfolding rounds
        round r w quiet t rest = unless m Ended (tick_all m (nodes m w) w) (λ v. after_ticks r v (eqb (length v.packets) (length w.packets))) (tick_all m (nodes m w) w).stopped refl (λ none.
            let v = (tick_all m (nodes m w) w).world in
            after r w v (eqb (length v.packets) (length w.packets)) refl quiet (ticks_balanced m (nodes m w) w) (all_tick r (nodes m w) w t none) rest)

        empty : (w : World m) → w.waiting ≡ [] → Queue m w []
        empty w quiet = record { rises = subst (λ is. RisesWithin 0 is (length w.packets)) (sym quiet) (omega arith); carries = subst (λ is. Carries w.packets is []) (sym quiet) tt }

        rounds_end : (r : ℕ) (w : World m) → Calm r w → EndsIn (rounds m r w)
        unfolding rounds
        rounds_end zero w c = λ none. ended w c.done c.since (f.ends (net m w) c.done c.inv) c.fact c.cluster
        rounds_end (suc r) w c = round r w c.quiet (record { q = []; done = c.done; queue = empty w c.quiet; since = c.since; pre = f.again r w c.done c.fact c.inv; fact = c.fact; cluster = c.cluster; stops = c.stops }) (λ u d. rounds_end r u d)

        -- so many rounds of a quiet world
        pub rounds_from : (r : ℕ) → base.waiting ≡ [] → Fact base → Pre r (nodes m base) (net m base) [] [] → base.cluster ≡ h → base.stopped ≡ stopped → EndsIn (rounds m (suc r) base)
        rounds_from r quiet fact pre cluster stops = round r base quiet (record { q = []; done = []; queue = empty base quiet; since = since_none base; pre = pre; fact = fact; cluster = cluster; stops = stops }) (λ u c. rounds_end r u c)

        -- what a settling of a quiet world comes to
        pub settle_ends : base.waiting ≡ [] → Fact base → Pre 7 (nodes m base) (net m base) [] [] → base.cluster ≡ h → base.stopped ≡ stopped → EndsIn (settle m base)
        unfolding settle drain
        settle_ends quiet fact pre cluster stops = first_drain m Ended (200001 - base.steps) base (λ v. rounds m 8 v) quiet (omega arith)
            (round 7 base quiet (record { q = []; done = []; queue = empty base quiet; since = since_none base; pre = pre; fact = fact; cluster = cluster; stops = stops }) (λ u c. rounds_end 7 u c))
