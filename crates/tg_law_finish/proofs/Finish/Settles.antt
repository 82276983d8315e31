-- A drain and a settling, as folds: a fact of the nodes and the queue that each delivery keeps.
use Rattle.std.proofs.Common.{◌≡◌, ℕ, zero, suc, ◌+◌, ◌-◌, ◌≤◌, List, [], ◌∷◌, ◌++◌, length, Bool, true, false, refl, ap, ◌∙◌, sym, subst, arith, Some, None, Option, eqb}
use Rattle.std.specs.Prelude.{slice_get, ⊤}
use Rattle.tg_base.specs.Clusters.{Header}
use Rattle.tg_base.specs.declared.fault.Which.{Which}
use Rattle.tg_base.specs.declared.ids.NodeId.{NodeId}
use Rattle.tg_base.specs.declared.msg.Msg.{Msg}
use Rattle.tg_base.specs.declared.packet.Packet.{Packet}
use Rattle.tg_kind.specs.Meaning.{Meaning}
use Rattle.tg_model.specs.declared.command.Event.TheVariants.{Deliver, Tick}
use Rattle.tg_protocol.specs.Worlds.{World, runs, happens, Ran, drain_on, drain, tick_all, nodes, unless_stopped, rounds, settle, limit_of, lowest}
use Rattle.tg_law_finish.proofs.Finish.Counted.{cost, counted}
use Rattle.tg_law_finish.proofs.Finish.Nets.{got_more, Net, net, net_if, sent_if, net_ticked, sent_ticked, on_in, runs_on, happens_counts, Later, first_delivered, later_queue, one_ticked}
use Rattle.tg_law_finish.specs.Finish.Queues.{RisesWithin, Carries, Queue}

-- deliveries of packets that are there
abbrev pub Valid : List Packet → List ℕ → Type 0
Valid ps [] = ⊤
Valid ps (i ∷ is) = ((x : Packet) × (slice_get ps i ≡ Some x)) × Valid ps is

valid_more : (ps more : List Packet) (is : List ℕ) → Valid ps is → Valid (ps ++ more) is
valid_more ps more [] v = tt
valid_more ps more (i ∷ is) v = ((v.0.0, got_more ps more i v.0.0 v.0.1), valid_more ps more is v.1)

valid_both : (ps : List Packet) (is js : List ℕ) → Valid ps is → Valid ps js → Valid ps (is ++ js)
valid_both ps [] js v u = u
valid_both ps (i ∷ is) js v u = (v.0, valid_both ps is js v.1 u)

cost_more : (k : ℕ) (ps more : List Packet) (i : ℕ) (x : Packet) → slice_get ps i ≡ Some x → cost k (slice_get (ps ++ more) i) ≡ cost k (slice_get ps i)
cost_more k ps more i x e = ap (λ o. cost k o) (got_more ps more i x e ∙ sym e)

counted_more : (k : ℕ) (ps more : List Packet) (is : List ℕ) → Valid ps is → counted k (ps ++ more) is ≡ counted k ps is
unfolding counted
counted_more k ps more [] v = refl
counted_more k ps more (i ∷ is) v = let a = cost_more k ps more i v.0.0 v.0.1 in let b = counted_more k ps more is v.1 in omega (arith, a, b)

counted_both : (k : ℕ) (ps : List Packet) (is js : List ℕ) → counted k ps (is ++ js) ≡ counted k ps is + counted k ps js
unfolding counted
counted_both k ps [] js = omega arith
counted_both k ps (i ∷ is) js = let a = counted_both k ps is js in omega (arith, a)

both_both : {X : Type 0} → (xs ys zs : List X) → (xs ++ ys) ++ zs ≡ xs ++ (ys ++ zs)
both_both [] ys zs = refl
both_both (x ∷ xs) ys zs = ap (λ l. x ∷ l) (both_both xs ys zs)

module _ (m : Meaning) where
  -- A fact of worlds that a delivery and a tick keep while no limit is reached, and what it says of packets that were
  -- sent.
  pub record Facts (Fact : World m → Type 0) (Fair : Net m → Msg → Type 0) : Type 0 where
    pub delivered : (w : World m) (i : ℕ) → limit_of m w ≡ None → Fact w → Fact (happens m w (Deliver i))
    pub ticked : (w : World m) (x : NodeId) → runs m w x ≡ true → limit_of m w ≡ None → Fact w → Fact (happens m w (Tick x))
    pub fair : (w : World m) (i : ℕ) (p : Packet) → Fact w → slice_get w.packets i ≡ Some p → Fair (net m w) p.msg

  pub no_facts : Facts (λ w. ⊤) (λ s x. ⊤)
  no_facts = record { delivered = λ w i free f. tt; ticked = λ w x on free f. tt; fair = λ w i p f e. tt }

module _ (m : Meaning) (k : ℕ) where
  -- from one world to a later one, of n deliveries that may be counted n' are left
  pub record Spent (w v : World m) (n left : ℕ) : Type 0 where
    pub more : List Packet
    pub packets : v.packets ≡ w.packets ++ more
    pub done : List ℕ
    pub since : v.delivered ≡ done ++ w.delivered
    pub valid : Valid v.packets done
    pub few : counted k v.packets done + left ≤ n

  pub spent_none : (w : World m) (n : ℕ) → Spent w w n n
  unfolding counted
  spent_none w n = record { more = []; packets = whole w.packets; done = []; since = refl; valid = tt; few = omega arith }
    where
      whole : (xs : List Packet) → xs ≡ xs ++ []
      whole [] = refl
      whole (x ∷ xs) = ap (λ zs. x ∷ zs) (whole xs)

  pub spent_then : (w v u : World m) (a b c : ℕ) → Spent w v a b → Spent v u b c → Spent w u a c
  spent_then w v u a b c x y = record {
    more = x.more ++ y.more;
    packets = y.packets ∙ (ap (λ ps. ps ++ y.more) x.packets ∙ both_both w.packets x.more y.more);
    done = y.done ++ x.done;
    since = y.since ∙ (ap (λ is. y.done ++ is) x.since ∙ sym (both_both y.done x.done w.delivered));
    valid = valid_both u.packets y.done x.done y.valid (subst (λ ps. Valid ps x.done) (sym y.packets) (valid_more v.packets y.more x.done x.valid));
    few =
        let e = counted_both k u.packets y.done x.done in
        let f = subst (λ ps. counted k ps x.done ≡ counted k v.packets x.done) (sym y.packets) (counted_more k v.packets y.more x.done x.valid) in
        let g = x.few in
        let h = y.few in
        omega (arith, e, f, g, h);
  }

  later_spent : (w v : World m) (is done : List ℕ) (s : Net m) (sent : List Packet) (n left : ℕ) → Later m w v is done s sent → Valid v.packets done → counted k v.packets done + left ≤ n → Spent w v n left
  later_spent w v is done s sent n left l valid few = record { more = sent; packets = l.packets; done = done; since = l.delivered; valid = valid; few = few }

  module _ (h : Header) (stopped : List NodeId) (Inv : Net m → List Packet → ℕ → Type 0) where
    -- what is left after a delivery
    pub record Step (s : Net m) (q : List Packet) (p : Packet) (n : ℕ) : Type 0 where
      pub left : ℕ
      pub keeps : Inv s q left
      pub pays : cost k (Some p) + left ≤ n

    abbrev pub Keeps : Type 0
    Keeps = (s : Net m) (p : Packet) (q : List Packet) (n : ℕ) → Inv s (p ∷ q) n → Step (net_if m (on_in m stopped s p.to) h s p) (q ++ sent_if m (on_in m stopped s p.to) h s p) p n

    -- where what is delivered is known to be such
    abbrev pub KeepsOf : (Net m → Msg → Type 0) → Type 0
    KeepsOf Fair = (s : Net m) (p : Packet) (q : List Packet) (n : ℕ) → Fair s p.msg → Inv s (p ∷ q) n → Step (net_if m (on_in m stopped s p.to) h s p) (q ++ sent_if m (on_in m stopped s p.to) h s p) p n

    pub record Holds (w : World m) (q : List Packet) (n : ℕ) : Type 0 where
      pub queue : Queue m w q
      pub inv : Inv (net m w) q n
      pub cluster : w.cluster ≡ h
      pub stops : w.stopped ≡ stopped

    -- a world with nothing on its way
    pub record Drained (w v : World m) (n : ℕ) : Type 0 where
      pub left : ℕ
      pub holds : Holds v [] left
      pub spent : Spent w v n left

    pub record Steps (w v : World m) (n : ℕ) : Type 0 where
      pub q : List Packet
      pub left : ℕ
      pub holds : Holds v q left
      pub spent : Spent w v n left

    drained_later : (w v u : World m) (n left : ℕ) → Spent w v n left → Drained v u left → Drained w u n
    drained_later w v u n left a b = record { left = b.left; holds = b.holds; spent = spent_then w v u n left b.left a b.spent }

    queue_empty : (w : World m) (q : List Packet) → w.waiting ≡ [] → Queue m w q → q ≡ []
    queue_empty w q e queue = by q (subst (λ is. Carries w.packets is q) e queue.carries)
      where
        by : (q : List Packet) → Carries w.packets [] q → q ≡ []
        by [] c = refl
        by (p ∷ q) c = absurd c

    module _ (Fact : World m → Type 0) (Fair : Net m → Msg → Type 0) (facts : Facts m Fact Fair) where
      step_on : KeepsOf Fair → (w : World m) (i : ℕ) (is : List ℕ) (p : Packet) (q : List Packet) (n : ℕ) → w.waiting ≡ i ∷ is → Fact w → Holds w (p ∷ q) n → Steps w (happens m w (Deliver i)) n
      unfolding counted
      step_on keep w i is p q n e fact holds =
          let v = happens m w (Deliver i) in
          let b = on_in m stopped (net m w) p.to in
          let running = runs_on m w p.to ∙ ap (λ (x : List NodeId). on_in m x (net m w) p.to) holds.stops in
          let l = subst (λ (c : Header). Later m w v is (i ∷ []) (net_if m b c (net m w) p) (sent_if m b c (net m w) p)) holds.cluster
          (subst (λ (c : Bool). Later m w v is (i ∷ []) (net_if m c w.cluster (net m w) p) (sent_if m c w.cluster (net m w) p)) running (first_delivered m w i is p q e holds.queue)) in
          let c = subst (λ js. Carries w.packets js (p ∷ q)) e holds.queue.carries in
          let one = keep (net m w) p q n (facts.fair w i p fact c.0) holds.inv in
          let r = subst (λ js. RisesWithin 0 js (length w.packets)) e holds.queue.rises in
          let got = subst (λ ps. slice_get ps i ≡ Some p) (sym l.packets) (got_more w.packets _ i p c.0) in
          let pays = one.pays in
          let costs = ap (λ o. cost k o) got in
          record {
            q = q ++ sent_if m b h (net m w) p;
            left = one.left;
            holds = record {
              queue = later_queue m w v is (i ∷ []) _ _ q (weaker (suc i) (length w.packets) is r.1) c.1 l;
              inv = subst (λ (s : Net m). Inv s (q ++ sent_if m b h (net m w) p) one.left) (sym l.nodes) one.keeps;
              cluster = l.cluster ∙ holds.cluster;
              stops = l.stopped ∙ holds.stops;
            };
            spent = later_spent w v is (i ∷ []) _ _ n one.left l ((p, got), tt) (omega (arith, pays, costs));
          }
        where
          weaker : (lo hi : ℕ) (is : List ℕ) → RisesWithin lo is hi → RisesWithin 0 is hi
          weaker lo hi [] r = omega arith
          weaker lo hi (i ∷ is) r = (omega arith, r.1)

      step_any : KeepsOf Fair → (w : World m) (i : ℕ) (is : List ℕ) (q : List Packet) (n : ℕ) → w.waiting ≡ i ∷ is → Fact w → Holds w q n → Steps w (happens m w (Deliver i)) n
      step_any keep w i is [] n e fact holds = absurd (subst (λ js. Carries w.packets js []) e holds.queue.carries)
      step_any keep w i is (p ∷ q) n e fact holds = step_on keep w i is p q n e fact holds

      abbrev DrainsTo : World m → ℕ → Ran m → Type 0
      DrainsTo w n r = r.stopped ≡ None → Drained w r.world n × Fact r.world

      by_limit : (w : World m) (n : ℕ) (next : Ran m) (o : Option Which) → limit_of m w ≡ o → (limit_of m w ≡ None → DrainsTo w n next) → DrainsTo w n (elim o as (λ _. Ran m) [ Some x ↦ record { world = w; stopped = Some x } | None ↦ next ])
      by_limit w n next None e t = t e
      by_limit w n next (Some x) e t = λ none. absurd cc

      by_lowest : (fuel : ℕ) (w : World m) (n : ℕ) (q : List Packet) → Fact w → Holds w q n → (is : List ℕ) → w.waiting ≡ is
          → ((i : ℕ) (js : List ℕ) → w.waiting ≡ i ∷ js → limit_of m w ≡ None → DrainsTo w n (drain_on m fuel (happens m w (Deliver i)))) → DrainsTo w n (elim (lowest m is) as (λ _. Ran m) [
            | None ↦ record { world = w; stopped = None }
            | Some i ↦ elim (limit_of m w) as (λ _. Ran m) [ Some x ↦ record { world = w; stopped = Some x } | None ↦ drain_on m fuel (happens m w (Deliver i)) ]
          ])
      by_lowest fuel w n q fact holds [] e t = λ none. (record { left = n; holds = subst (λ r. Holds w r n) (queue_empty w q e holds.queue) holds; spent = spent_none w n }, fact)
      by_lowest fuel w n q fact holds (i ∷ is) e t = by_limit w n (drain_on m fuel (happens m w (Deliver i))) (limit_of m w) refl (t i is e)

      at_end : (w : World m) (n : ℕ) (q : List Packet) → Holds w q n → (200000 ≤ w.steps) → DrainsTo w n (record { world = w; stopped = limit_of m w })
      unfolding limit_of
      at_end w n q holds le = λ none. absurd (grind arith)

      drains_on : KeepsOf Fair → (fuel : ℕ) (w : World m) (n : ℕ) (q : List Packet) → 200001 ≤ fuel + w.steps → Fact w → Holds w q n → DrainsTo w n (drain_on m fuel w)
      unfolding drain_on
      drains_on keep zero w n q le fact holds = at_end w n q holds (omega (arith, le))
      drains_on keep (suc fuel) w n q le fact holds = by_lowest fuel w n q fact holds w.waiting refl (λ i js e free none.
          let one = step_any keep w i js q n e fact holds in
          let rest = drains_on keep fuel (happens m w (Deliver i)) one.left one.q (steps_up w i le) (facts.delivered w i free fact) one.holds none in
          (drained_later w _ _ n one.left one.spent rest.0, rest.1))
        where
          steps_up : (w : World m) (i : ℕ) → 200001 ≤ suc fuel + w.steps → 200001 ≤ fuel + (happens m w (Deliver i)).steps
          steps_up w i le = let e = happens_counts m w i in omega (arith, le, e)

      drain_by : KeepsOf Fair → (w : World m) (n : ℕ) (q : List Packet) → Fact w → Holds w q n → DrainsTo w n (drain m w)
      unfolding drain
      drain_by keep w n q fact holds = drains_on keep (200001 - w.steps) w n q (omega arith) fact holds

    pub drain_to : Keeps → (w : World m) (n : ℕ) (q : List Packet) → Holds w q n → (drain m w).stopped ≡ None → Drained w (drain m w).world n
    drain_to keep w n q holds none = (drain_by (λ v. ⊤) (λ s x. ⊤) (no_facts m) (λ s p r i f x. keep s p r i x) w n q tt holds none).0

    -- A round of ticks: a fact of the nodes that haven't ticked yet.
    module _ (Pre : List NodeId → Net m → List Packet → ℕ → Type 0) where
      pub record Ticking : Type 0 where
        pub one : (x : NodeId) (xs : List NodeId) (s : Net m) (q : List Packet) (n : ℕ) → Pre (x ∷ xs) s q n → on_in m stopped s x ≡ true
            → Pre xs (net_ticked m h s x.num x.role) (q ++ sent_ticked m h s x.num x.role) n
        pub other : (x : NodeId) (xs : List NodeId) (s : Net m) (q : List Packet) (n : ℕ) → Pre (x ∷ xs) s q n → on_in m stopped s x ≡ false → Pre xs s q n
        pub all : (s : Net m) (q : List Packet) (n : ℕ) → Pre [] s q n → Inv s q n

      pub record Before (xs : List NodeId) (w : World m) (q : List Packet) (n : ℕ) : Type 0 where
        pub queue : Queue m w q
        pub pre : Pre xs (net m w) q n
        pub cluster : w.cluster ≡ h
        pub stops : w.stopped ≡ stopped

      pub record Ticked (w v : World m) (n : ℕ) : Type 0 where
        pub q : List Packet
        pub holds : Holds v q n
        pub spent : Spent w v n n

      running : (w : World m) (x : NodeId) → w.stopped ≡ stopped → runs m w x ≡ on_in m stopped (net m w) x
      running w x e = runs_on m w x ∙ ap (λ (y : List NodeId). on_in m y (net m w) x) e

      tick_on : Ticking → (w : World m) (x : NodeId) (xs : List NodeId) (q : List Packet) (n : ℕ) → runs m w x ≡ true → Before (x ∷ xs) w q n
          → Before xs (happens m w (Tick x)) (q ++ sent_ticked m h (net m w) x.num x.role) n × Spent w (happens m w (Tick x)) n n
      unfolding counted
      tick_on t w x xs q n e b =
          let v = happens m w (Tick x) in
          let l = subst (λ (c : Header). Later m w v w.waiting [] (net_ticked m c (net m w) x.num x.role) (sent_ticked m c (net m w) x.num x.role)) b.cluster (one_ticked m w x e) in (
            record {
              queue = later_queue m w v w.waiting [] _ _ q b.queue.rises b.queue.carries l;
              pre = subst (λ (s : Net m). Pre xs s (q ++ sent_ticked m h (net m w) x.num x.role) n) (sym l.nodes) (t.one x xs (net m w) q n b.pre (sym (running w x b.stops) ∙ e));
              cluster = l.cluster ∙ b.cluster;
              stops = l.stopped ∙ b.stops;
            },
            later_spent w v w.waiting [] _ _ n n l tt (omega arith),
          )

      ticked_later : (w v u : World m) (n : ℕ) → Spent w v n n → Ticked v u n → Ticked w u n
      ticked_later w v u n a b = record { q = b.q; holds = b.holds; spent = spent_then w v u n n n a b.spent }

      -- Rounds.

      -- what is to be shown: with nothing on its way the fact is that of a world whose nodes may tick again
      pub record Rounding (Fair : Net m → Msg → Type 0) : Type 0 where
        pub keeps : KeepsOf Fair
        pub ticking : Ticking
        pub again : (w : World m) (n : ℕ) → Inv (net m w) [] n → Pre (nodes m w) (net m w) [] n

      module _ (Fact : World m → Type 0) (Fair : Net m → Msg → Type 0) (facts : Facts m Fact Fair) where
        abbrev TicksTo : World m → ℕ → Ran m → Type 0
        TicksTo w n r = r.stopped ≡ None → Ticked w r.world n × Fact r.world

        ticks_limit : (w : World m) (n : ℕ) (next : Ran m) (o : Option Which) → limit_of m w ≡ o → (limit_of m w ≡ None → TicksTo w n next) → TicksTo w n (elim o as (λ _. Ran m) [ Some x ↦ record { world = w; stopped = Some x } | None ↦ next ])
        ticks_limit w n next None e t = t e
        ticks_limit w n next (Some x) e t = λ none. absurd cc

        if_runs : (w : World m) (x : NodeId) (xs : List NodeId) (q : List Packet) (n : ℕ) (b : Bool) → runs m w x ≡ b → Ticking → Fact w → Before (x ∷ xs) w q n
            → ((v : World m) (r : List Packet) → Fact v → Before xs v r n → TicksTo v n (tick_all m xs v)) → TicksTo w n (elim b as (λ _. Ran m) [
              | false ↦ tick_all m xs w
              | true ↦ elim (limit_of m w) as (λ _. Ran m) [ Some y ↦ record { world = w; stopped = Some y } | None ↦ tick_all m xs (happens m w (Tick x)) ]
            ])
        if_runs w x xs q n false e t fact b rest = rest w q fact (record { queue = b.queue; pre = t.other x xs (net m w) q n b.pre (sym (running w x b.stops) ∙ e); cluster = b.cluster; stops = b.stops })
        if_runs w x xs q n true e t fact b rest = ticks_limit w n (tick_all m xs (happens m w (Tick x))) (limit_of m w) refl (λ free none.
            let one = tick_on t w x xs q n e b in
            let more = rest _ _ (facts.ticked w x e free fact) one.0 none in
            (ticked_later w _ _ n one.1 more.0, more.1))

        ticks_by : Ticking → (xs : List NodeId) (w : World m) (q : List Packet) (n : ℕ) → Fact w → Before xs w q n → TicksTo w n (tick_all m xs w)
        unfolding tick_all
        ticks_by t [] w q n fact b = λ none. (record { q = q; holds = record { queue = b.queue; inv = t.all (net m w) q n b.pre; cluster = b.cluster; stops = b.stops }; spent = spent_none w n }, fact)
        ticks_by t (x ∷ xs) w q n fact b = if_runs w x xs q n (runs m w x) refl t fact b (λ v r f. ticks_by t xs v r n f)

        abbrev Drains : World m → ℕ → Ran m → Type 0
        Drains w n r = DrainsTo Fact Fair facts w n r

        unless : (w : World m) (n : ℕ) (r : Ran m) (f : World m → Ran m) (o : Option Which) → r.stopped ≡ o → (o ≡ None → Drains w n (f r.world)) → Drains w n (elim o as (λ _. Ran m) [ Some x ↦ r | None ↦ f r.world ])
        unless w n r f None e t = t refl
        unless w n r f (Some x) e t = λ none. absurd cc

        abbrev after_ticks : ℕ → World m → Bool → Ran m
        after_ticks n v b = elim b as (λ _. Ran m) [ true ↦ drain m v | false ↦ unless_stopped m (drain m v) (λ u. rounds m n u) ]

        after : (r n : ℕ) (v : World m) (b : Bool) → Drains v n (drain m v) → Drains v n (unless_stopped m (drain m v) (λ u. rounds m r u)) → Drains v n (after_ticks r v b)
        after r n v true d e = d
        after r n v false d e = e

        before : Rounding Fair → (w : World m) (n : ℕ) → Holds w [] n → Before (nodes m w) w [] n
        before t w n holds = record { queue = holds.queue; pre = t.again w n holds.inv; cluster = holds.cluster; stops = holds.stops }

        later_drained : (w v u : World m) (n left : ℕ) → Spent w v n left → Drained v u left × Fact u → Drained w u n × Fact u
        later_drained w v u n left a b = (drained_later w v u n left a b.0, b.1)

        round : Rounding Fair → (r : ℕ) (w : World m) (n : ℕ) → Fact w → Before (nodes m w) w [] n → ((u : World m) (left : ℕ) → Fact u → Holds u [] left → Drains u left (rounds m r u)) → Drains w n (rounds m (suc r) w)
        unfolding rounds
        round t r w n fact b rest = unless w n (tick_all m (nodes m w) w) (λ v. after_ticks r v (eqb (length v.packets) (length w.packets))) (tick_all m (nodes m w) w).stopped refl (λ none.
            let v = (tick_all m (nodes m w) w).world in
            let y = ticks_by t.ticking (nodes m w) w [] n fact b none in
            let x = y.0 in
            let d = drain_by Fact Fair facts t.keeps v n x.q y.1 x.holds in
            λ still. later_drained w v _ n n x.spent (after r n v (eqb (length v.packets) (length w.packets)) d (unless v n (drain m v) (λ u. rounds m r u) (drain m v).stopped refl (λ calm.
            let z = d calm in
            λ quiet. later_drained v _ _ n z.0.left z.0.spent (rest (drain m v).world z.0.left z.1 z.0.holds quiet))) still))

        rounds_to : Rounding Fair → (r : ℕ) (w : World m) (n : ℕ) → Fact w → Holds w [] n → Drains w n (rounds m r w)
        unfolding rounds
        rounds_to t zero w n fact holds = λ none. (record { left = n; holds = holds; spent = spent_none w n }, fact)
        rounds_to t (suc r) w n fact holds = round t r w n fact (before t w n holds) (λ u left f h. rounds_to t r u left f h)

        -- A quiet world: the first drain delivers nothing.

        quiet_drains : (fuel : ℕ) (w : World m) (next : World m → Ran m) (n : ℕ) → w.waiting ≡ [] → Drains w n (next w) → Drains w n (unless_stopped m (drain_on m (suc fuel) w) next)
        unfolding drain_on
        quiet_drains fuel w next n e t = by w.waiting e
          where
            by : (is : List ℕ) → is ≡ [] → Drains w n (unless_stopped m (elim (lowest m is) as (λ _. Ran m) [
              | None ↦ record { world = w; stopped = None }
              | Some i ↦ elim (limit_of m w) as (λ _. Ran m) [ Some x ↦ record { world = w; stopped = Some x } | None ↦ drain_on m fuel (happens m w (Deliver i)) ]
            ]) next)
            by [] e = t
            by (i ∷ is) e = absurd cc

        at_limit : (w : World m) → 200000 ≤ w.steps → limit_of m w ≡ None → ⊥
        unfolding limit_of
        at_limit w le none = grind arith

        over : (w : World m) (next : World m → Ran m) (n : ℕ) → 200000 ≤ w.steps → Drains w n (unless_stopped m (drain_on m zero w) next)
        unfolding drain_on
        over w next n le = by (limit_of m w) refl
          where
            by : (o : Option Which) → limit_of m w ≡ o → Drains w n (elim o as (λ _. Ran m) [ Some x ↦ record { world = w; stopped = limit_of m w } | None ↦ next w ])
            by None e = absurd (at_limit w le e)
            by (Some x) e = λ none. absurd cc

        first_drain : (fuel : ℕ) (w : World m) (next : World m → Ran m) (n : ℕ) → w.waiting ≡ [] → 200001 ≤ fuel + w.steps → Drains w n (next w) → Drains w n (unless_stopped m (drain_on m fuel w) next)
        first_drain zero w next n e le t = over w next n (omega (arith, le))
        first_drain (suc fuel) w next n e le t = quiet_drains fuel w next n e t

        -- what a settling comes to
        pub settles_from : Rounding Fair → (w : World m) (n : ℕ) (q : List Packet) → Fact w → Holds w q n → (settle m w).stopped ≡ None → Drained w (settle m w).world n × Fact (settle m w).world
        unfolding settle
        settles_from t w n q fact holds = unless w n (drain m w) (λ v. rounds m 8 v) (drain m w).stopped refl (λ calm.
            let y = drain_by Fact Fair facts t.keeps w n q fact holds calm in
            λ none. later_drained w _ _ n y.0.left y.0.spent (rounds_to t 8 (drain m w).world y.0.left y.1 y.0.holds none))

        -- what a settling of a quiet world comes to
        pub settles : Rounding Fair → (w : World m) (n : ℕ) → w.waiting ≡ [] → Fact w → Pre (nodes m w) (net m w) [] n → w.cluster ≡ h → w.stopped ≡ stopped → (settle m w).stopped ≡ None → Drained w (settle m w).world n × Fact (settle m w).world
        unfolding settle drain
        settles t w n e fact pre cluster stops = first_drain (200001 - w.steps) w (λ v. rounds m 8 v) n e (omega arith)
            (round t 7 w n fact (record { queue = record { rises = subst (λ is. RisesWithin 0 is (length w.packets)) (sym e) (omega arith); carries = subst (λ is. Carries w.packets is []) (sym e) tt }; pre = pre; cluster = cluster; stops = stops }) (λ u left f holds. rounds_to t 7 u left f holds))

      pub ticks_all : Ticking → (xs : List NodeId) (w : World m) (q : List Packet) (n : ℕ) → Before xs w q n → (tick_all m xs w).stopped ≡ None → Ticked w (tick_all m xs w).world n
      ticks_all t xs w q n b none = (ticks_by (λ v. ⊤) (λ s x. ⊤) (no_facts m) t xs w q n tt b none).0
