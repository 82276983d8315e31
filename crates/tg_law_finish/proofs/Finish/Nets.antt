-- Nodes and the queue of packets between them: a world, as far as its deliveries go.
use Rattle.std.proofs.Common.{◌≡◌, ℕ, zero, suc, ◌+◌, ◌≤◌, List, [], ◌∷◌, ◌++◌, length, map, Bool, true, false, not, ◌&&◌, refl, ap, ◌∙◌, sym, subst, arith, Some, None, Option, filter, eqb}
use Rattle.std.specs.Prelude.{slice_get, slice_set, slice_index_or, nat_lt}
use Rattle.tg_base.specs.Clusters.{Header}
use Rattle.tg_base.specs.declared.ids.NodeId.{NodeId}
use Rattle.tg_base.specs.declared.ids.Role.{Role}
use Rattle.tg_base.specs.declared.ids.Role.TheVariants as role
use Rattle.tg_base.specs.declared.packet.Packet.{Packet}
use Rattle.tg_kind.specs.Meaning.{Meaning}
use Rattle.tg_model.specs.declared.command.Event.TheVariants.{Deliver, Tick}
use Rattle.std.specs.List.{list_any}
use Rattle.tg_law_finish.specs.Finish.Laws.{TakesTurn}
use Rattle.tg_law_finish.specs.Finish.Queues.{RisesWithin, Carries, Queue}
use Rattle.tg_law_layouts.proofs.Moves.Members.{set_long}
use Rattle.tg_base.specs.Orders.{node_eq}
use Rattle.tg_protocol.specs.Words.{seqr_id, client_id, numbers}
use Rattle.tg_protocol.specs.Layouts.{first_layout}
use Rattle.tg_protocol.specs.Units.{UnitState, new_unit, unit_step}
use Rattle.tg_protocol.specs.LayoutServers.{LayoutState, new_layout, layout_step}
use Rattle.tg_protocol.specs.Sequencers.{SeqrState, new_seqr, seqr_step, seqr_tick}
use Rattle.tg_protocol.specs.Clients.{Client, new_client}
use Rattle.tg_protocol.specs.ClientSteps.{client_deliver, client_tick}
use Rattle.tg_protocol.specs.Worlds.{World, packet_of, answer_to, moves, comes, handed, delivers, runs, without_num, unit_moves, layout_moves, seqr_moves, client_turned, ticks, ticks_if, count_of, happens, lowest}

-- The packets of a world that wait, in their order.

rises_within : (lo hi : ℕ) (is : List ℕ) → RisesWithin lo is hi → lo ≤ hi
rises_within lo hi [] h = h
rises_within lo hi (i ∷ is) h = let a = h.0 in let b = rises_within (suc i) hi is h.1 in omega (arith, a, b)

rises_more : (lo hi n : ℕ) (is : List ℕ) → RisesWithin lo is hi → RisesWithin lo (is ++ numbers n hi) (hi + n)
rises_more lo hi n [] h = from n lo hi h
  where
    from : (n lo hi : ℕ) → lo ≤ hi → RisesWithin lo (numbers n hi) (hi + n)
    from zero lo hi le = omega (arith, le)
    from (suc n) lo hi le = (le, subst (λ x. RisesWithin (suc hi) (numbers n (hi + 1)) x) (omega arith) (from n (suc hi) (hi + 1) (omega arith)))
rises_more lo hi n (i ∷ is) h = (h.0, rises_more (suc i) hi n is h.1)

rises_from : (lo low hi : ℕ) (is : List ℕ) → low ≤ lo → RisesWithin lo is hi → RisesWithin low is hi
rises_from lo low hi [] le h = omega (arith, le, h)
rises_from lo low hi (i ∷ is) le h = ((let a = h.0 in omega (arith, le, a)), h.1)

kept_rest : (i j : ℕ) (is js : List ℕ) → suc i ≤ j → filter (λ (x : ℕ). not (eqb i x)) is ≡ js → filter (λ (x : ℕ). not (eqb i x)) (j ∷ is) ≡ j ∷ js
kept_rest i j is js le e = grind arith

others_stay : (i lo hi : ℕ) (is : List ℕ) → suc i ≤ lo → RisesWithin lo is hi → filter (λ (x : ℕ). not (eqb i x)) is ≡ is
others_stay i lo hi [] le h = refl
others_stay i lo hi (j ∷ is) le h = kept_rest i j is is (let a = h.0 in omega (arith, le, a)) (others_stay i (suc j) hi is (let a = h.0 in omega (arith, le, a)) h.1)

first_goes : (i : ℕ) (is : List ℕ) → filter (λ (x : ℕ). not (eqb i x)) is ≡ is → filter (λ (x : ℕ). not (eqb i x)) (i ∷ is) ≡ is
first_goes i is e = grind arith

pub got_more : {X : Type 0} → (xs ys : List X) (i : ℕ) (x : X) → slice_get xs i ≡ Some x → slice_get (xs ++ ys) i ≡ Some x
got_more [] ys i x e = absurd (cc)
got_more (z ∷ xs) ys zero x e = e
got_more (z ∷ xs) ys (suc i) x e = got_more xs ys i x e

got_at : {X : Type 0} → (xs : List X) (y : X) (ys : List X) → slice_get (xs ++ y ∷ ys) (length xs) ≡ Some y
got_at [] y ys = refl
got_at (x ∷ xs) y ys = got_at xs y ys

carries_more : (ps more : List Packet) (is : List ℕ) (q : List Packet) → Carries ps is q → Carries (ps ++ more) is q
carries_more ps more [] [] h = h
carries_more ps more [] (p ∷ q) h = absurd h
carries_more ps more (i ∷ is) [] h = absurd h
carries_more ps more (i ∷ is) (p ∷ q) h = (got_more ps more i p h.0, carries_more ps more is q h.1)

carries_both : (ps : List Packet) (is js : List ℕ) (q r : List Packet) → Carries ps is q → Carries ps js r → Carries ps (is ++ js) (q ++ r)
carries_both ps [] js [] r h g = g
carries_both ps [] js (p ∷ q) r h g = absurd h
carries_both ps (i ∷ is) js [] r h g = absurd h
carries_both ps (i ∷ is) js (p ∷ q) r h g = (h.0, carries_both ps is js q r h.1 g)

both_long : {X : Type 0} → (ps : List X) (x : X) → length (ps ++ x ∷ []) ≡ length ps + 1
both_long [] x = refl
both_long (y ∷ ps) x = let e = both_long ps x in omega (arith, e)

both_nest : {X : Type 0} → (ps : List X) (x : X) (xs : List X) → (ps ++ x ∷ []) ++ xs ≡ ps ++ x ∷ xs
both_nest [] x xs = refl
both_nest (y ∷ ps) x xs = ap (λ zs. y ∷ zs) (both_nest ps x xs)

carries_new : (ps more : List Packet) → Carries (ps ++ more) (numbers (length more) (length ps)) more
carries_new ps [] = tt
carries_new ps (x ∷ more) = (
  got_at ps x more,
  subst (λ n. Carries (ps ++ x ∷ more) (numbers (length more) n) more) (both_long ps x)
      (subst (λ zs. Carries zs (numbers (length more) (length (ps ++ x ∷ []))) more) (both_nest ps x more) (carries_new (ps ++ x ∷ []) more)),
)

module _ (m : Meaning) where
  -- the states of all nodes
  pub record Net : Type 0 where
    pub units : List UnitState
    pub layouts : List LayoutState
    pub seqrs : List SeqrState
    pub clients : List (Client m)

  abbrev pub net : World m → Net
  net w = record { units = w.units; layouts = w.layouts; seqrs = w.seqrs; clients = w.clients }

  abbrev pub unit_of : Net → ℕ → UnitState
  unit_of s n = slice_index_or s.units n new_unit

  abbrev pub layout_of : Header → Net → ℕ → LayoutState
  layout_of h s n = slice_index_or s.layouts n (new_layout (first_layout h))

  abbrev pub seqr_of : Header → Net → ℕ → SeqrState
  seqr_of h s n = slice_index_or s.seqrs n (new_seqr n h.limit (first_layout h))

  abbrev pub client_of : Header → Net → ℕ → Client m
  client_of h s n = slice_index_or s.clients n (new_client m h n)

  -- the nodes after a packet has come to one of them, and what that one sends
  abbrev pub net_after : Header → Net → Packet → Role → Net
  net_after h s p role.Unit = record s { units = slice_set s.units p.to.num (unit_step (unit_of s p.to.num) p.msg).now }
  net_after h s p role.Layout = record s { layouts = slice_set s.layouts p.to.num (layout_step (layout_of h s p.to.num) p.msg).now }
  net_after h s p role.Seqr = record s { seqrs = slice_set s.seqrs p.to.num (seqr_step (seqr_of h s p.to.num) p.from p.rid p.msg).now }
  net_after h s p role.Client = record s { clients = slice_set s.clients p.to.num (client_deliver m (client_of h s p.to.num) p.from p.rid p.msg).now }

  abbrev pub sent_then : Header → Net → Packet → Role → List Packet
  sent_then h s p role.Unit = answer_to m p (unit_step (unit_of s p.to.num) p.msg).says
  sent_then h s p role.Layout = answer_to m p (layout_step (layout_of h s p.to.num) p.msg).says
  sent_then h s p role.Seqr = map (packet_of m (seqr_id p.to.num)) (seqr_step (seqr_of h s p.to.num) p.from p.rid p.msg).sends
  sent_then h s p role.Client = map (packet_of m (client_id p.to.num)) (client_deliver m (client_of h s p.to.num) p.from p.rid p.msg).sends

  abbrev pub net_if : Bool → Header → Net → Packet → Net
  net_if true h s p = net_after h s p p.to.role
  net_if false h s p = s

  abbrev pub sent_if : Bool → Header → Net → Packet → List Packet
  sent_if true h s p = sent_then h s p p.to.role
  sent_if false h s p = []

  -- a world after a delivery or a tick: what it sent, and what stays
  pub record Later (w v : World m) (is : List ℕ) (done : List ℕ) (s : Net) (sent : List Packet) : Type 0 where
    pub nodes : net v ≡ s
    pub packets : v.packets ≡ w.packets ++ sent
    pub waiting : v.waiting ≡ is ++ numbers (length sent) (length w.packets)
    pub delivered : v.delivered ≡ done ++ w.delivered
    pub cluster : v.cluster ≡ w.cluster
    pub stopped : v.stopped ≡ w.stopped

  role_moves : (w : World m) (i : ℕ) (p : Packet) (r : Role) → Later w (moves m (handed m w i) p r) (without_num m i w.waiting) (i ∷ []) (net_after w.cluster (net w) p r) (sent_then w.cluster (net w) p r)
  unfolding unit_moves layout_moves seqr_moves client_turned
  role_moves w i p role.Unit = record { nodes = refl; packets = refl; waiting = refl; delivered = refl; cluster = refl; stopped = refl }
  role_moves w i p role.Layout = record { nodes = refl; packets = refl; waiting = refl; delivered = refl; cluster = refl; stopped = refl }
  role_moves w i p role.Seqr = record { nodes = refl; packets = refl; waiting = refl; delivered = refl; cluster = refl; stopped = refl }
  role_moves w i p role.Client = record { nodes = refl; packets = refl; waiting = refl; delivered = refl; cluster = refl; stopped = refl }

  nothing_more : {X : Type 0} → (xs : List X) → xs ≡ xs ++ []
  nothing_more [] = refl
  nothing_more (x ∷ xs) = ap (λ zs. x ∷ zs) (nothing_more xs)

  coming : (w : World m) (i : ℕ) (p : Packet) (b : Bool) → Later w (comes m b (handed m w i) p) (without_num m i w.waiting) (i ∷ []) (net_if b w.cluster (net w) p) (sent_if b w.cluster (net w) p)
  coming w i p true = role_moves w i p p.to.role
  coming w i p false = record { nodes = refl; packets = nothing_more w.packets; waiting = nothing_more _; delivered = refl; cluster = refl; stopped = refl }

  got_delivered : (w : World m) (i : ℕ) (p : Packet) (o : Option Packet) → o ≡ Some p
      → Later w (delivers m w i o) (without_num m i w.waiting) (i ∷ []) (net_if (runs m w p.to) w.cluster (net w) p) (sent_if (runs m w p.to) w.cluster (net w) p)
  got_delivered w i p o e = subst (λ (x : Option Packet). Later w (delivers m w i x) (without_num m i w.waiting) (i ∷ []) (net_if (runs m w p.to) w.cluster (net w) p) (sent_if (runs m w p.to) w.cluster (net w) p)) (sym e) (coming w i p (runs m w p.to))

  counts_only : (w v : World m) (is done : List ℕ) (s : Net) (sent : List Packet) → Later w v is done s sent → Later w (record v { steps = v.steps + 1 }) is done s sent
  counts_only w v is done s sent l = record { nodes = l.nodes; packets = l.packets; waiting = l.waiting; delivered = l.delivered; cluster = l.cluster; stopped = l.stopped }

  -- the oldest packet is delivered
  pub first_delivered : (w : World m) (i : ℕ) (is : List ℕ) (p : Packet) (q : List Packet) → w.waiting ≡ i ∷ is → Queue m w (p ∷ q)
      → Later w (happens m w (Deliver i)) is (i ∷ []) (net_if (runs m w p.to) w.cluster (net w) p) (sent_if (runs m w p.to) w.cluster (net w) p)
  unfolding happens
  first_delivered w i is p q e queue =
      let c = subst (λ js. Carries w.packets js (p ∷ q)) e queue.carries in
      let r = subst (λ js. RisesWithin 0 js (length w.packets)) e queue.rises in
      let l = got_delivered w i p (slice_get w.packets i) c.0 in
      counts_only w _ is (i ∷ []) _ _ (subst (λ js. Later w (delivers m w i (slice_get w.packets i)) js (i ∷ []) (net_if (runs m w p.to) w.cluster (net w) p) (sent_if (runs m w p.to) w.cluster (net w) p))
      (ap (λ js. without_num m i js) e ∙ first_goes i is (others_stay i (suc i) (length w.packets) is (omega arith) r.1)) l)

  pub later_queue : (w v : World m) (is done : List ℕ) (s : Net) (sent q : List Packet) → RisesWithin 0 is (length w.packets) → Carries w.packets is q → Later w v is done s sent → Queue m v (q ++ sent)
  later_queue w v is done s sent q rises carries l = record {
    rises = subst (λ js. RisesWithin 0 js (length v.packets)) (sym l.waiting) (subst (λ ps. RisesWithin 0 (is ++ numbers (length sent) (length w.packets)) (length ps)) (sym l.packets)
        (subst (λ n. RisesWithin 0 (is ++ numbers (length sent) (length w.packets)) n) (sym (length_both w.packets sent)) (rises_more 0 (length w.packets) (length sent) is rises)));
    carries = subst (λ js. Carries v.packets js (q ++ sent)) (sym l.waiting) (subst (λ ps. Carries ps (is ++ numbers (length sent) (length w.packets)) (q ++ sent)) (sym l.packets)
        (carries_both (w.packets ++ sent) is (numbers (length sent) (length w.packets)) q sent (carries_more w.packets sent is q carries) (carries_new w.packets sent)));
  }
    where
      length_both : {X : Type 0} → (xs ys : List X) → length (xs ++ ys) ≡ length xs + length ys
      length_both [] ys = omega arith
      length_both (x ∷ xs) ys = let e = length_both xs ys in omega (arith, e)

  -- Which nodes run.

  abbrev pub count_in : Net → Role → ℕ
  count_in s role.Unit = length s.units
  count_in s role.Layout = length s.layouts
  count_in s role.Seqr = length s.seqrs
  count_in s role.Client = length s.clients

  abbrev pub on_in : List NodeId → Net → NodeId → Bool
  on_in stopped s n = nat_lt n.num (count_in s n.role) && not (list_any (node_eq n) stopped)

  count_same : (w : World m) (r : Role) → count_of m w r ≡ count_in (net w) r
  count_same w role.Unit = refl
  count_same w role.Layout = refl
  count_same w role.Seqr = refl
  count_same w role.Client = refl

  pub runs_on : (w : World m) (n : NodeId) → runs m w n ≡ on_in w.stopped (net w) n
  runs_on w n = ap (λ c. nat_lt n.num c && not (list_any (node_eq n) w.stopped)) (count_same w n.role)

  -- as many nodes as before
  pub record Alike (s t : Net) : Type 0 where
    pub counts : (r : Role) → count_in t r ≡ count_in s r

  unit_counts : (s : Net) (n : ℕ) (x : UnitState) (r : Role) → count_in (record s { units = slice_set s.units n x }) r ≡ count_in s r
  unit_counts s n x role.Unit = set_long s.units n x
  unit_counts s n x role.Layout = refl
  unit_counts s n x role.Seqr = refl
  unit_counts s n x role.Client = refl

  layout_counts : (s : Net) (n : ℕ) (x : LayoutState) (r : Role) → count_in (record s { layouts = slice_set s.layouts n x }) r ≡ count_in s r
  layout_counts s n x role.Unit = refl
  layout_counts s n x role.Layout = set_long s.layouts n x
  layout_counts s n x role.Seqr = refl
  layout_counts s n x role.Client = refl

  seqr_counts : (s : Net) (n : ℕ) (x : SeqrState) (r : Role) → count_in (record s { seqrs = slice_set s.seqrs n x }) r ≡ count_in s r
  seqr_counts s n x role.Unit = refl
  seqr_counts s n x role.Layout = refl
  seqr_counts s n x role.Seqr = set_long s.seqrs n x
  seqr_counts s n x role.Client = refl

  client_counts : (s : Net) (n : ℕ) (x : Client m) (r : Role) → count_in (record s { clients = slice_set s.clients n x }) r ≡ count_in s r
  client_counts s n x role.Unit = refl
  client_counts s n x role.Layout = refl
  client_counts s n x role.Seqr = refl
  client_counts s n x role.Client = set_long s.clients n x

  pub seqr_alike : (s : Net) (n : ℕ) (x : SeqrState) → Alike s (record s { seqrs = slice_set s.seqrs n x })
  seqr_alike s n x = record { counts = λ r. seqr_counts s n x r }

  pub unit_alike : (s : Net) (n : ℕ) (x : UnitState) → Alike s (record s { units = slice_set s.units n x })
  unit_alike s n x = record { counts = λ r. unit_counts s n x r }

  pub client_alike : (s : Net) (n : ℕ) (x : Client m) → Alike s (record s { clients = slice_set s.clients n x })
  client_alike s n x = record { counts = λ r. client_counts s n x r }

  alike_after : (h : Header) (s : Net) (p : Packet) (r : Role) → Alike s (net_after h s p r)
  alike_after h s p role.Unit = record { counts = λ r. unit_counts s p.to.num _ r }
  alike_after h s p role.Layout = record { counts = λ r. layout_counts s p.to.num _ r }
  alike_after h s p role.Seqr = record { counts = λ r. seqr_counts s p.to.num _ r }
  alike_after h s p role.Client = record { counts = λ r. client_counts s p.to.num _ r }

  pub alike_if : (b : Bool) (h : Header) (s : Net) (p : Packet) → Alike s (net_if b h s p)
  alike_if true h s p = alike_after h s p p.to.role
  alike_if false h s p = record { counts = λ r. refl }

  pub on_alike : (stopped : List NodeId) (s t : Net) → Alike s t → (n : NodeId) → on_in stopped t n ≡ on_in stopped s n
  on_alike stopped s t a n = ap (λ c. nat_lt n.num c && not (list_any (node_eq n) stopped)) (a.counts n.role)

  -- Ticks.

  abbrev pub net_ticked : Header → Net → ℕ → Role → Net
  net_ticked h s n role.Unit = s
  net_ticked h s n role.Layout = s
  net_ticked h s n role.Seqr = record s { seqrs = slice_set s.seqrs n (seqr_tick (seqr_of h s n)).now }
  net_ticked h s n role.Client = record s { clients = slice_set s.clients n (client_tick m (client_of h s n)).now }

  abbrev pub sent_ticked : Header → Net → ℕ → Role → List Packet
  sent_ticked h s n role.Unit = []
  sent_ticked h s n role.Layout = []
  sent_ticked h s n role.Seqr = map (packet_of m (seqr_id n)) (seqr_tick (seqr_of h s n)).sends
  sent_ticked h s n role.Client = map (packet_of m (client_id n)) (client_tick m (client_of h s n)).sends

  pub alike_ticked : (h : Header) (s : Net) (n : ℕ) (r : Role) → Alike s (net_ticked h s n r)
  alike_ticked h s n role.Unit = record { counts = λ r. refl }
  alike_ticked h s n role.Layout = record { counts = λ r. refl }
  alike_ticked h s n role.Seqr = record { counts = λ r. seqr_counts s n _ r }
  alike_ticked h s n role.Client = record { counts = λ r. client_counts s n _ r }

  role_ticks : (w : World m) (n : ℕ) (r : Role) → Later w (ticks m w n r) w.waiting [] (net_ticked w.cluster (net w) n r) (sent_ticked w.cluster (net w) n r)
  unfolding client_turned
  role_ticks w n role.Unit = record { nodes = refl; packets = nothing_more w.packets; waiting = nothing_more _; delivered = refl; cluster = refl; stopped = refl }
  role_ticks w n role.Layout = record { nodes = refl; packets = nothing_more w.packets; waiting = nothing_more _; delivered = refl; cluster = refl; stopped = refl }
  role_ticks w n role.Seqr = record { nodes = refl; packets = refl; waiting = refl; delivered = refl; cluster = refl; stopped = refl }
  role_ticks w n role.Client = record { nodes = refl; packets = refl; waiting = refl; delivered = refl; cluster = refl; stopped = refl }

  pub one_ticked : (w : World m) (n : NodeId) → runs m w n ≡ true → Later w (happens m w (Tick n)) w.waiting [] (net_ticked w.cluster (net w) n.num n.role) (sent_ticked w.cluster (net w) n.num n.role)
  unfolding happens
  one_ticked w n e = counts_only w _ w.waiting [] _ _
      (subst (λ b. Later w (ticks_if m b w n) w.waiting [] (net_ticked w.cluster (net w) n.num n.role) (sent_ticked w.cluster (net w) n.num n.role)) (sym e) (role_ticks w n.num n.role))

  -- A delivery counts one step.

  moves_count : (w : World m) (p : Packet) (r : Role) → (moves m w p r).steps ≡ w.steps
  unfolding unit_moves layout_moves seqr_moves client_turned
  moves_count w p role.Unit = refl
  moves_count w p role.Layout = refl
  moves_count w p role.Seqr = refl
  moves_count w p role.Client = refl

  comes_counts : (b : Bool) (w : World m) (p : Packet) → (comes m b w p).steps ≡ w.steps
  comes_counts true w p = moves_count w p p.to.role
  comes_counts false w p = refl

  delivers_count : (w : World m) (i : ℕ) (o : Option Packet) → (delivers m w i o).steps ≡ w.steps
  delivers_count w i None = refl
  delivers_count w i (Some p) = comes_counts (runs m w p.to) (handed m w i) p

  pub happens_counts : (w : World m) (i : ℕ) → (happens m w (Deliver i)).steps ≡ w.steps + 1
  unfolding happens
  happens_counts w i = ap (λ n. n + 1) (delivers_count w i (slice_get w.packets i))

  -- the oldest packet's turn
  pub takes_turn : (w : World m) (i : ℕ) (p : Packet) (q : List Packet) → lowest m w.waiting ≡ Some i → Queue m w (p ∷ q) → (slice_get w.packets i ≡ Some p) × TakesTurn m w (happens m w (Deliver i)) q
  takes_turn w i p q e queue = by w.waiting refl e
    where
      one : (a b : ℕ) → Some a ≡ Some b → a ≡ b
      one a b e = cc

      here : (is : List ℕ) → w.waiting ≡ i ∷ is → (slice_get w.packets i ≡ Some p) × TakesTurn m w (happens m w (Deliver i)) q
      here is e =
          let c = subst (λ js. Carries w.packets js (p ∷ q)) e queue.carries in
          let r = subst (λ js. RisesWithin 0 js (length w.packets)) e queue.rises in
          let l = first_delivered w i is p q e queue in
          (c.0, record { sent = _; packets = l.packets; waiting = later_queue w _ is (i ∷ []) _ _ q (lower 0 i is _ r) c.1 l })
        where
          lower : (lo i : ℕ) (is : List ℕ) (hi : ℕ) → (lo ≤ i) × RisesWithin (suc i) is hi → RisesWithin lo is hi
          lower lo i [] hi h = let a = h.0 in let b = h.1 in omega (arith, a, b)
          lower lo i (j ∷ is) hi h = ((let a = h.0 in let b = h.1.0 in omega (arith, a, b)), h.1.1)

      by : (is : List ℕ) → w.waiting ≡ is → lowest m is ≡ Some i → (slice_get w.packets i ≡ Some p) × TakesTurn m w (happens m w (Deliver i)) q
      by [] f g = absurd cc
      by (j ∷ is) f g = here is (f ∙ ap (λ n. n ∷ is) (one j i g))
