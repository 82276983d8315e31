-- A round of ticks while the new sequencer scans: it and the client ask once more, each once.
use Rattle.std.proofs.Common.{◌≡◌, ◌⊎◌, ℕ, zero, suc, ◌+◌, ◌*◌, ◌<◌, ◌≤◌, List, [], ◌∷◌, ◌++◌, length, map, Bool, true, false, eqb, refl, ap, ◌∙◌, sym, subst, inl, inr, arith, Some, None}
use Rattle.std.specs.Prelude.{slice_set, slice_index_or}
use Rattle.tg_base.specs.Clusters.{Header}
use Rattle.tg_base.specs.Layouts.{Layout, IsLayout}
use Rattle.tg_base.specs.declared.ids.NodeId.{NodeId}
use Rattle.tg_base.specs.declared.ids.Role.{Role}
use Rattle.tg_base.specs.declared.ids.Role.TheVariants as role
use Rattle.tg_base.specs.declared.msg.Msg.{Msg}
use Rattle.tg_base.specs.declared.msg.Msg.TheVariants as msg
use Rattle.tg_base.specs.declared.packet.Out.{Out}
use Rattle.tg_base.specs.declared.packet.Packet.{Packet}
use Rattle.tg_base.specs.Orders.{node_eq}
use Rattle.tg_kind.specs.Meaning.{Meaning}
use Rattle.tg_protocol.specs.Words.{unit_id, layout_id, seqr_id, client_id, numbers}
use Rattle.tg_protocol.specs.Layouts.{first_layout}
use Rattle.tg_protocol.specs.Requests.{out, waits_for}
use Rattle.tg_protocol.specs.Sequencers.{SeqrState, SeqrTurn, seqr_asks, seqr_tick}
use Rattle.tg_protocol.specs.Reconfiguring.{Reconf, Starting}
use Rattle.tg_protocol.specs.Clients.{Client, Work, Reconfiguring, new_client}
use Rattle.tg_protocol.specs.ClientSteps.{ClientTurn, called, client_tick, tick_by, asks_latest}
use Rattle.tg_protocol.specs.Worlds.{World, nodes, packet_of}
use Rattle.tg_law_layouts.proofs.Moves.Members.{Has, has_left, has_right}
use Rattle.tg_law_finish.proofs.Finish.Finishes.{Once}
use Rattle.tg_law_finish.proofs.Finish.Lists.{Each, each_both, set_index, set_other}
use Rattle.tg_law_finish.proofs.Finish.Nets.{Net, net_ticked, sent_ticked, on_in, client_alike, client_of, seqr_of}
use Rattle.tg_law_finish.proofs.Finish.Others.{idle_ticks, weigh_both}
use Rattle.tg_law_finish.proofs.Finish.Tasks.{shape_ticked, again_is}
use Rattle.tg_law_reconfs.proofs.Answering.{node_same}
use Rattle.tg_law_reconfs.proofs.Scanning.{tick_sends}
use Rattle.tg_law_reconfs.proofs.ScanSteps.{contrary, unit_seqr, unit_client, seqr_layout, layout_client, Ok, AsksLatest, Learns, from_costs, more_weigh, none_weigh, Base, base_of, base_seqr, base_client, own_there, seqr_there, Side, nothing_side, asks_are, asks_ok, asks_weigh, asks_own, other_seqr, ask_packet, scan_packet, told_packet, scan_weight, Weigh}
use Rattle.tg_law_reconfs.proofs.ScanTurns.{Learnt, togo, span}
use Rattle.tg_law_reconfs.proofs.ScanDrains.{Waits, NotTo, spent, scanned, rounds_left}
use Rattle.tg_law_reconfs.proofs.Tapes.{sum_by, sum_both, same_append}

-- Nodes that tick.

-- the node is among them, and once
unfoldable pub AtMost : NodeId → List NodeId → Type 0
AtMost n [] = Unit {0}
AtMost n (x ∷ xs) = (node_eq x n ≡ true → Each (λ y. node_eq y n ≡ false) xs) × AtMost n xs

abbrev pub Absent : NodeId → List NodeId → Type 0
Absent n xs = Each (λ y. node_eq y n ≡ false) xs

pub record Owes (n : NodeId) (xs : List NodeId) : Type 0 where
  pub here : Has xs n
  pub once : AtMost n xs

absent_once : (n : NodeId) (xs : List NodeId) → Absent n xs → AtMost n xs
unfolding AtMost
absent_once n [] a = tt
absent_once n (x ∷ xs) a = ((λ e. absurd (contrary e a.0)), absent_once n xs a.1)

once_more : (n : NodeId) (xs ys : List NodeId) → Absent n xs → AtMost n ys → AtMost n (xs ++ ys)
unfolding AtMost
once_more n [] ys a o = o
once_more n (x ∷ xs) ys a o = ((λ e. absurd (contrary e a.0)), once_more n xs ys a.1 o)

once_before : (n : NodeId) (xs ys : List NodeId) → AtMost n xs → Absent n ys → AtMost n (xs ++ ys)
unfolding AtMost
once_before n [] ys o a = absent_once n ys a
once_before n (x ∷ xs) ys o a = ((λ e. each_both (λ y. node_eq y n ≡ false) xs ys (o.0 e) a), once_before n xs ys o.1 a)

itself : (n : NodeId) → node_eq n n ≡ true
unfolding node_eq
itself n = grind arith

-- after one has ticked
pub it_ticked : (n x : NodeId) (xs : List NodeId) → node_eq x n ≡ true → Owes n (x ∷ xs) → Absent n xs
unfolding AtMost
it_ticked n x xs e o = o.once.0 e

pub other_ticked : (n x : NodeId) (xs : List NodeId) → node_eq x n ≡ false → Owes n (x ∷ xs) → Owes n xs
unfolding AtMost
other_ticked n x xs off o = record { here = by o.here; once = o.once.1 }
  where
    by : Has (x ∷ xs) n → Has xs n
    by (inl e) = absurd (contrary (subst (λ (y : NodeId). node_eq y n ≡ true) e (itself n)) off)
    by (inr g) = g

pub client_owes : (k : ℕ) (xs : List NodeId) → Once k xs → Owes (client_id k) xs
unfolding AtMost
client_owes k xs o = subst (λ (l : List NodeId). Owes (client_id k) l) (sym o.is) (record { here = has_right o.front (client_id k ∷ o.back) (client_id k) (inl refl); once = once_more (client_id k) o.front (client_id k ∷ o.back) o.not_front ((λ e. o.not_back), absent_once (client_id k) o.back o.not_back) })

module _ (s : ℕ) where
  units_off : (n a : ℕ) → Absent (seqr_id s) (map unit_id (numbers n a))
  unfolding node_eq
  units_off zero a = tt
  units_off (suc n) a = (refl, units_off n (a + 1))

  layouts_off : (n a : ℕ) → Absent (seqr_id s) (map layout_id (numbers n a))
  unfolding node_eq
  layouts_off zero a = tt
  layouts_off (suc n) a = (refl, layouts_off n (a + 1))

  clients_off : (n a : ℕ) → Absent (seqr_id s) (map client_id (numbers n a))
  unfolding node_eq
  clients_off zero a = tt
  clients_off (suc n) a = (refl, clients_off n (a + 1))

  differs : (a : ℕ) → eqb a s ≡ false → node_eq (seqr_id a) (seqr_id s) ≡ false
  unfolding node_eq
  differs a e = e

  seqrs_past : (n a : ℕ) → s < a → Absent (seqr_id s) (map seqr_id (numbers n a))
  seqrs_past zero a less = tt
  seqrs_past (suc n) a less = (differs a (grind arith), seqrs_past n (a + 1) (omega (arith, less)))

  seqrs_owe : (n a : ℕ) → a ≤ s → s < a + n → Owes (seqr_id s) (map seqr_id (numbers n a))
  unfolding AtMost
  seqrs_owe zero a le less = absurd (omega (arith, le, less))
  seqrs_owe (suc n) a le less = by (three a s) (λ up. seqrs_owe n (a + 1) up (omega (arith, less)))
    where
      three : (a b : ℕ) → (b ≡ a) ⊎ ((eqb a b ≡ false) × ((b < a) ⊎ (a + 1 ≤ b)))
      three a b = grind arith

      past : s < a → ⊥
      past x = omega (arith, x, le)

      by : (s ≡ a) ⊎ ((eqb a s ≡ false) × ((s < a) ⊎ (a + 1 ≤ s))) → (a + 1 ≤ s → Owes (seqr_id s) (map seqr_id (numbers n (a + 1)))) → Owes (seqr_id s) (seqr_id a ∷ map seqr_id (numbers n (a + 1)))
      by (inl e) more = record { here = inl (ap seqr_id e); once = ((λ i. seqrs_past n (a + 1) (omega (arith, e))), absent_once (seqr_id s) _ (seqrs_past n (a + 1) (omega (arith, e)))) }
      by (inr (off, inl x)) more = absurd (past x)
      by (inr (off, inr x)) more = let rest = more x in record { here = inr rest.here; once = ((λ i. absurd (contrary i (differs a off))), rest.once) }

  pub nodes_owe : (m : Meaning) (w : World m) → s < length w.seqrs → Owes (seqr_id s) (nodes m w)
  nodes_owe m w less =
      let us = map unit_id (numbers (length w.units) 0) in
      let ls = map layout_id (numbers (length w.layouts) 0) in
      let ss = map seqr_id (numbers (length w.seqrs) 0) in
      let cs = map client_id (numbers (length w.clients) 0) in
      let o = seqrs_owe (length w.seqrs) 0 (omega arith) (omega (arith, less)) in
      let off = each_both (λ y. node_eq y (seqr_id s) ≡ false) us ls (units_off (length w.units) 0) (layouts_off (length w.layouts) 0) in
      record {
        here = has_left ((us ++ ls) ++ ss) cs (seqr_id s) (has_right (us ++ ls) ss (seqr_id s) o.here);
        once = once_before (seqr_id s) ((us ++ ls) ++ ss) cs (once_more (seqr_id s) (us ++ ls) ss off o.once) (clients_off (length w.clients) 0);
      }

module _ (m : Meaning) (h : Header) (stopped : List NodeId) (k : ℕ) (p : Layout) (rules : IsLayout p) (r : Reconf) (rid : ℕ) (starting : r.work ≡ Starting rid) (stand : r.stand ≡ p) (servers : ℕ) where
  abbrev ask : Out
  ask = out (seqr_id p.seq) rid (msg.Learn p)

  abbrev Ask : Packet
  Ask = ask_packet m h stopped k p rules r rid starting stand servers

  abbrev Scan' : ℕ → ℕ → Msg → Packet
  Scan' u i y = scan_packet m h stopped k p rules r rid starting stand servers p.seq u i y

  abbrev Told' : ℕ → ℕ → Msg → Packet
  Told' u i y = told_packet m h stopped k p rules r rid starting stand servers p.seq u i y

  abbrev Fine : Packet → Type 0
  Fine x = Ok m h stopped k p rules r rid starting stand servers x

  abbrev W : List Packet → ℕ
  W q = Weigh m h stopped k p rules r rid starting stand servers q

  abbrev S : List Packet → ℕ
  S q = sum_by (scan_weight m h stopped k p rules r rid starting stand servers) q

  abbrev Aside : Packet → Type 0
  Aside x = NotTo m h stopped k p rules r rid starting stand servers x

  abbrev Waiting : Client m → Type 0
  Waiting c = Waits m h stopped k p rules r rid starting stand servers c

  abbrev Nodes : Net m → Type 0
  Nodes s = Base m h stopped k p rules r rid starting stand servers s

  abbrev Apart : Net m → Net m → List Packet → ℕ → ℕ → Type 0
  Apart s t sent a c = Side m h stopped k p rules r rid starting stand servers s t sent a c

  abbrev seqr : Net m → SeqrState
  seqr s = seqr_of m h s p.seq

  abbrev own : Net m → Client m
  own s = client_of m h s k

  abbrev paid : List Packet → ℕ
  paid done = spent m h stopped k p rules r rid starting stand servers done

  abbrev swept : List Packet → ℕ
  swept done = scanned m h stopped k p rules r rid starting stand servers done

  abbrev left : Bool → ℕ
  left late = rounds_left m h stopped k p rules r rid starting stand servers late

  -- the client has not ticked, waits for nothing, or has asked
  pub record Owing (late : Bool) (xs : List NodeId) (c : Client m) (q done : List Packet) : Type 0 where
    pub waits : Waiting c
    pub owes : Owes (client_id k) xs
    pub aside : Each Aside q
    pub few : paid done + W q + (2 * servers + 2) + left late ≤ 4 * servers + 4

  pub record Idling (late : Bool) (c : Client m) (q done : List Packet) : Type 0 where
    pub none : c.work ≡ None
    pub is_late : late ≡ true
    pub aside : Each Aside q
    pub few : paid done + W q ≤ 4 * servers + 4

  pub record Asked (late : Bool) (xs : List NodeId) (c : Client m) (q done : List Packet) : Type 0 where
    pub waits : Waiting c
    pub off : Absent (client_id k) xs
    pub front : List Packet
    pub back : List Packet
    pub is : q ≡ front ++ Ask ∷ back
    pub before : Each Aside front
    pub behind : Each Aside back
    pub few : paid done + W q + left late ≤ 4 * servers + 4

  abbrev pub ClientTurn' : Bool → List NodeId → Client m → List Packet → List Packet → Type 0
  ClientTurn' late xs c q done = Owing late xs c q done ⊎ (Idling late c q done ⊎ Asked late xs c q done)

  -- the sequencer has not ticked, or has asked what it has outstanding
  abbrev pub HasAsked : SeqrState → List Packet → Type 0
  HasAsked y q = (o : Out) → Has (seqr_asks y) o → Has q (packet_of m (seqr_id p.seq) o)

  abbrev pub SeqrTurn' : List NodeId → SeqrState → List Packet → Type 0
  SeqrTurn' xs y q = (Owes (seqr_id p.seq) xs × (S q ≡ 0)) ⊎ (Absent (seqr_id p.seq) xs × ((S q ≤ 2 * length (seqr_asks y)) × HasAsked y q))

  -- where it stands
  abbrev pub SeqrAt : Bool → SeqrState → List Packet → Type 0
  SeqrAt true y done = Learnt p rules y × ((y.scan ≡ None) × (swept done ≤ 2 * span p rules p.start + 2))
  SeqrAt false y done = (swept done ≡ 0) × ((Learnt p rules y × (togo p rules y ≤ span p rules p.start)) ⊎ ((y.num ≡ p.seq) × (y.epoch < p.epoch)))

  pub record Ticks (late : Bool) (xs : List NodeId) (s : Net m) (q done : List Packet) : Type 0 where
    pub base : Nodes s
    pub at : SeqrAt late (seqr s) done
    pub one : length (seqr_asks (seqr s)) ≤ 1
    pub each : Each Fine q
    pub client_turn : ClientTurn' late xs (own s) q done
    pub seqr_turn : SeqrTurn' xs (seqr s) q

  -- Another node ticks.

  both_aside : (q sent : List Packet) → Each Aside q → Each Aside sent → Each Aside (q ++ sent)
  both_aside q sent a b = each_both Aside q sent a b

  client_same : (late : Bool) (x : NodeId) (xs : List NodeId) (c : Client m) (q sent done : List Packet) → W sent ≤ 0 → Each Aside sent → (Owes (client_id k) (x ∷ xs) → Owes (client_id k) xs) → ClientTurn' late (x ∷ xs) c q done → ClientTurn' late xs c (q ++ sent) done
  client_same late x xs c q sent done light aside owes (inl o) = let both = weigh_both m h stopped k p q sent in let few = o.few in inl (record { waits = o.waits; owes = owes o.owes; aside = both_aside q sent o.aside aside; few = omega (arith, both, few, light) })
  client_same late x xs c q sent done light aside owes (inr (inl o)) = let both = weigh_both m h stopped k p q sent in let few = o.few in inr (inl (record { none = o.none; is_late = o.is_late; aside = both_aside q sent o.aside aside; few = omega (arith, both, few, light) }))
  client_same late x xs c q sent done light aside owes (inr (inr o)) = let both = weigh_both m h stopped k p q sent in let few = o.few in inr (inr (record {
    waits = o.waits;
    off = o.off.1;
    front = o.front;
    back = o.back ++ sent;
    is = ap (λ (l : List Packet). l ++ sent) o.is ∙ same_append o.front Ask o.back sent;
    before = o.before;
    behind = both_aside o.back sent o.behind aside;
    few = omega (arith, both, few, light);
  }))

  seqr_same : (x : NodeId) (xs : List NodeId) (y : SeqrState) (q sent : List Packet) → S sent ≤ 0 → (Owes (seqr_id p.seq) (x ∷ xs) → Owes (seqr_id p.seq) xs) → SeqrTurn' (x ∷ xs) y q → SeqrTurn' xs y (q ++ sent)
  seqr_same x xs y q sent light owes (inl o) = let sums = sum_both (scan_weight m h stopped k p rules r rid starting stand servers) q sent in let e = o.1 in inl (owes o.0, omega (arith, sums, e, light))
  seqr_same x xs y q sent light owes (inr o) = let sums = sum_both (scan_weight m h stopped k p rules r rid starting stand servers) q sent in let e = o.1.0 in inr (o.0.1, (omega (arith, sums, e, light), λ z has. has_left q sent _ (o.1.1 z has)))

  abbrev NotOwn : NodeId → Type 0
  NotOwn x = (node_eq x (client_id k) ≡ false) × (node_eq x (seqr_id p.seq) ≡ false)

  side_ticks : (late : Bool) (x : NodeId) (xs : List NodeId) (s t : Net m) (q sent done : List Packet) → NotOwn x → Ticks late (x ∷ xs) s q done → Apart s t sent 0 0 → Each Aside sent → Ticks late xs t (q ++ sent) done
  side_ticks late x xs s t q sent done not d f aside = record {
    base = f.base;
    at = subst (λ (y : SeqrState). SeqrAt late y done) (sym f.seqr) d.at;
    one = subst (λ (y : SeqrState). length (seqr_asks y) ≤ 1) (sym f.seqr) d.one;
    each = each_both Fine q sent d.each f.each;
    client_turn = subst (λ (c : Client m). ClientTurn' late xs c (q ++ sent) done) (sym f.client) (client_same late x xs (own s) q sent done f.few aside (λ o. other_ticked (client_id k) x xs not.0 o) d.client_turn);
    seqr_turn = subst (λ (y : SeqrState). SeqrTurn' xs y (q ++ sent)) (sym f.seqr) (seqr_same x xs (seqr s) q sent f.scans (λ o. other_ticked (seqr_id p.seq) x xs not.1 o) d.seqr_turn);
  }

  off_num : (j n : ℕ) → node_eq (client_id j) (client_id n) ≡ false → eqb j n ≡ false
  unfolding node_eq
  off_num j n e = e

  flip : (a b : ℕ) → eqb a b ≡ false → eqb b a ≡ false
  flip a b e = grind arith

  off_seqr : (j n : ℕ) → node_eq (seqr_id j) (seqr_id n) ≡ false → eqb n j ≡ false
  unfolding node_eq
  off_seqr j n e = flip j n e

  client_side : (s : Net m) (j : ℕ) → eqb j k ≡ false → (client_of m h s j).work ≡ None → Nodes s → Apart s (record s { clients = slice_set s.clients j (called m (client_of m h s j)) }) [] 0 0
  client_side s j off none b =
      let w = none_weigh m h stopped k p rules r rid starting stand servers in
      let e = w.0 in
      let f = w.1 in
      let c = called m (client_of m h s j) in
      record {
        base = base_of m h stopped k p rules r rid starting stand servers s (record s { clients = slice_set s.clients j c }) (client_alike m s j c) b b.units b.layouts (λ i away on. by i (b.idle i away on) (set_index s.clients j c i (new_client m h i)));
        seqr = refl;
        client = set_other s.clients j c k (new_client m h k) (flip j k off);
        each = tt;
        few = omega (arith, e);
        scans = omega (arith, f);
      }
    where
      by : (i : ℕ) → (client_of m h s i).work ≡ None → ((i ≡ j) × (slice_index_or (slice_set s.clients j (called m (client_of m h s j))) i (new_client m h i) ≡ called m (client_of m h s j))) ⊎ (slice_index_or (slice_set s.clients j (called m (client_of m h s j))) i (new_client m h i) ≡ client_of m h s i)
          → (slice_index_or (slice_set s.clients j (called m (client_of m h s j))) i (new_client m h i)).work ≡ None
      by i e (inl c) = ap (λ (d : Client m). d.work) c.1 ∙ none
      by i e (inr c) = ap (λ (d : Client m). d.work) c ∙ e

  asks_aside : (x : ℕ) (os : List Out) → ((o : Out) → Has os o → (u : ℕ) × (o.to ≡ unit_id u)) → Each Aside (map (packet_of m (seqr_id x)) os)
  asks_aside x [] f = tt
  asks_aside x (o ∷ os) f = let a = f o (inl refl) in (((λ e. unit_seqr a.0 p.seq (sym a.1 ∙ e)), (λ e. unit_client a.0 k (sym a.1 ∙ e))), asks_aside x os (λ z has. f z (inr has)))

  nothing_ticks : (late : Bool) (x : NodeId) (xs : List NodeId) (s : Net m) (q done : List Packet) → NotOwn x → Ticks late (x ∷ xs) s q done → Ticks late xs s (q ++ []) done
  nothing_ticks late x xs s q done not d = side_ticks late x xs s s q [] done not d (nothing_side m h stopped k p rules r rid starting stand servers s d.base) tt

  other_node : (late : Bool) (n : ℕ) (x : Role) (xs : List NodeId) (s : Net m) (q done : List Packet) → NotOwn (record { role = x; num = n }) → on_in m stopped s (record { role = x; num = n }) ≡ true → Ticks late (record { role = x; num = n } ∷ xs) s q done → Ticks late xs (net_ticked m h s n x) (q ++ sent_ticked m h s n x) done
  other_node late n role.Unit xs s q done not on d = nothing_ticks late _ xs s q done not d
  other_node late n role.Layout xs s q done not on d = nothing_ticks late _ xs s q done not d
  other_node late n role.Seqr xs s q done not on d =
      let y = seqr_of m h s n in
      let t = seqr_tick y in
      let are = λ (o : Out) (has : Has t.sends o). asks_are m h stopped k p rules r rid starting stand servers t.now o (tick_sends y o has) in
      side_ticks late _ xs s _ q _ done not d (other_seqr m h stopped k p rules r rid starting stand servers s n t (off_seqr n p.seq not.1) (λ o has. tick_sends y o has) d.base) (asks_aside n t.sends (λ o has. let a = are o has in (a.0, a.1)))
  other_node late n role.Client xs s q done not on d =
      let none = d.base.idle n (off_num n k not.0) on in
      subst (λ (t : ClientTurn m). Ticks late xs (record s { clients = slice_set s.clients n t.now }) (q ++ map (packet_of m (client_id n)) t.sends) done) (sym (idle_ticks m h stopped k (first_layout h) (client_of m h s n) none))
      (side_ticks late _ xs s _ q [] done not d (client_side s n (off_num n k not.0) none d.base) tt)

  -- The sequencer ticks.

  tick_is : (y : SeqrState) → seqr_tick y ≡ record { now = y; sends = seqr_asks y }
  unfolding seqr_tick
  tick_is y = refl

  mapped : (f : Out → Packet) (os : List Out) (o : Out) → Has os o → Has (map f os) (f o)
  mapped f [] o g = absurd g
  mapped f (x ∷ os) o (inl e) = inl (ap f e)
  mapped f (x ∷ os) o (inr g) = inr (mapped f os o g)

  seqr_not_client : (a : ℕ) → node_eq (seqr_id a) (client_id k) ≡ false
  unfolding node_eq
  seqr_not_client a = refl

  client_not_seqr : (a : ℕ) → node_eq (client_id k) (seqr_id a) ≡ false
  unfolding node_eq
  client_not_seqr a = refl

  two_or : (n l a : ℕ) → n ≡ 0 → a ≤ 2 * l → n + a ≤ 2 * l
  two_or n l a e f = omega (arith, e, f)

  seqr_node : (late : Bool) (xs : List NodeId) (s : Net m) (q done : List Packet) → Ticks late (seqr_id p.seq ∷ xs) s q done → Ticks late xs (net_ticked m h s p.seq role.Seqr) (q ++ sent_ticked m h s p.seq role.Seqr) done
  seqr_node late xs s q done d = subst (λ (t : SeqrTurn). Ticks late xs (record s { seqrs = slice_set s.seqrs p.seq t.now }) (q ++ map (packet_of m (seqr_id p.seq)) t.sends) done) (sym (tick_is (seqr s))) (
      let y = seqr_of m h s p.seq in
      let os = seqr_asks y in
      let ms = map (packet_of m (seqr_id p.seq)) os in
      let there = seqr_there m h stopped k p rules r rid starting stand servers s y d.base in
      let are = λ (o : Out) (has : Has os o). asks_are m h stopped k p rules r rid starting stand servers y o has in
      let light = asks_weigh m h stopped k p rules r rid starting stand servers p.seq os are in
      record {
        base = base_seqr m h stopped k p rules r rid starting stand servers s p.seq y d.base;
        at = subst (λ (z : SeqrState). SeqrAt late z done) (sym there) d.at;
        one = subst (λ (z : SeqrState). length (seqr_asks z) ≤ 1) (sym there) d.one;
        each = each_both Fine q ms d.each (asks_ok m h stopped k p rules r rid starting stand servers p.seq os are);
        client_turn = client_same late (seqr_id p.seq) xs (own s) q ms done (omega (arith, light)) (asks_aside p.seq os (λ o has. let a = are o has in (a.0, a.1))) (λ o. other_ticked (client_id k) (seqr_id p.seq) xs (seqr_not_client p.seq) o) d.client_turn;
        seqr_turn = subst (λ (z : SeqrState). SeqrTurn' xs z (q ++ ms)) (sym there) (by d.seqr_turn (asks_own m h stopped k p rules r rid starting stand servers os are));
      })
    where
      by : SeqrTurn' (seqr_id p.seq ∷ xs) (seqr_of m h s p.seq) q → S (map (packet_of m (seqr_id p.seq)) (seqr_asks (seqr_of m h s p.seq))) ≡ 2 * length (seqr_asks (seqr_of m h s p.seq))
          → SeqrTurn' xs (seqr_of m h s p.seq) (q ++ map (packet_of m (seqr_id p.seq)) (seqr_asks (seqr_of m h s p.seq)))
      by (inl o) e =
          let ms = map (packet_of m (seqr_id p.seq)) (seqr_asks (seqr_of m h s p.seq)) in
          let sums = sum_both (scan_weight m h stopped k p rules r rid starting stand servers) q ms in
          let z = o.1 in
          inr (it_ticked (seqr_id p.seq) (seqr_id p.seq) xs (itself (seqr_id p.seq)) o.0, (omega (arith, sums, z, e), λ a has. has_right q ms _ (mapped (packet_of m (seqr_id p.seq)) (seqr_asks (seqr_of m h s p.seq)) a has)))
      by (inr o) e = absurd (contrary (itself (seqr_id p.seq)) o.0.0)

  -- The client ticks.

  latest_fine : (ns : List ℕ) (i : ℕ) → Each Fine (map (packet_of m (client_id k)) (asks_latest m (waits_for ns i))) × (Each Aside (map (packet_of m (client_id k)) (asks_latest m (waits_for ns i))) × ((W (map (packet_of m (client_id k)) (asks_latest m (waits_for ns i))) ≡ 2 * length ns) × (S (map (packet_of m (client_id k)) (asks_latest m (waits_for ns i))) ≡ 0)))
  latest_fine [] i = let e = none_weigh m h stopped k p rules r rid starting stand servers in let e0 = e.0 in let e1 = e.1 in (tt, (tt, (omega (arith, e0), e1)))
  latest_fine (n ∷ ns) i =
      let rest = latest_fine ns (i + 1) in
      let c = from_costs m h stopped k p rules r rid starting stand servers (out (layout_id n) i msg.AskLatest) in
      let c0 = c.weighs in
      let c1 = c.scan_weighs in
      let more = more_weigh m h stopped k p rules r rid starting stand servers (packet_of m (client_id k) (out (layout_id n) i msg.AskLatest)) (map (packet_of m (client_id k)) (asks_latest m (waits_for ns (i + 1)))) in
      let m0 = more.0 in
      let m1 = more.1 in
      let r0 = rest.1.1.0 in
      let r1 = rest.1.1.1 in
      ((AsksLatest n i, rest.0), ((((λ e. seqr_layout p.seq n (sym e)), (λ e. layout_client n k e)), rest.1.0), (omega (arith, c0, m0, r0), omega (arith, c1, m1, r1))))

  long_numbers : (n a : ℕ) → length (numbers n a) ≡ n
  long_numbers zero a = refl
  long_numbers (suc n) a = ap suc (long_numbers n (a + 1))

  ticks_so : (c : Client m) → Waiting c → client_tick m c ≡ record { now = called m (record c { next = c.next + c.layouts }); sends = ask ∷ asks_latest m (waits_for (numbers c.layouts 0) c.next); notes = [] }
  unfolding client_tick
  ticks_so c f =
      let a = again_is m h stopped k p 0 c (Reconfiguring r) (ask ∷ []) f.shape in
      ap (λ x. tick_by m c x) a.waits ∙ ap (λ os. record { now = called m (record c { next = c.next + c.layouts }); sends = os ++ asks_latest m (waits_for (numbers c.layouts 0) c.next); notes = [] }) a.again

  some_none : (v : Work m) → Some v ≡ None → ⊥
  some_none v e = cc

  client_node : (late : Bool) (xs : List NodeId) (s : Net m) (q done : List Packet) → Ticks late (client_id k ∷ xs) s q done → Ticks late xs (net_ticked m h s k role.Client) (q ++ sent_ticked m h s k role.Client) done
  client_node late xs s q done d = by d.client_turn
    where
      itself' : node_eq (client_id k) (client_id k) ≡ true
      itself' = itself (client_id k)

      owing : Owing late (client_id k ∷ xs) (own s) q done → Ticks late xs (net_ticked m h s k role.Client) (q ++ sent_ticked m h s k role.Client) done
      owing o = subst (λ (t : ClientTurn m). Ticks late xs (record s { clients = slice_set s.clients k t.now }) (q ++ map (packet_of m (client_id k)) t.sends) done) (sym (ticks_so (own s) o.waits)) (
          let c = own s in
          let now = called m (record c { next = c.next + c.layouts }) in
          let ls = map (packet_of m (client_id k)) (asks_latest m (waits_for (numbers c.layouts 0) c.next)) in
          let fine = latest_fine (numbers c.layouts 0) c.next in
          let there = own_there m h stopped k p rules r rid starting stand servers s now d.base in
          let both = weigh_both m h stopped k p q (Ask ∷ ls) in
          let sums = sum_both (scan_weight m h stopped k p rules r rid starting stand servers) q (Ask ∷ ls) in
          let more = more_weigh m h stopped k p rules r rid starting stand servers Ask ls in
          let m0 = more.0 in
          let m1 = more.1 in
          let a = from_costs m h stopped k p rules r rid starting stand servers (out (seqr_id p.seq) rid (msg.Learn p)) in
          let a0 = a.weighs in
          let a1 = a.scan_weighs in
          let l0 = fine.1.1.0 in
          let l1 = fine.1.1.1 in
          let long = long_numbers c.layouts 0 in
          let same = o.waits.layouts in
          let few = o.few in
          record {
            base = base_client m h stopped k p rules r rid starting stand servers s now d.base;
            at = d.at;
            one = d.one;
            each = each_both Fine q (Ask ∷ ls) d.each (Learns, fine.0);
            client_turn = subst (λ (z : Client m). ClientTurn' late xs z (q ++ Ask ∷ ls) done) (sym there) (inr (inr (record {
              waits = record { shape = shape_ticked m h stopped k p 0 c (Reconfiguring r) (ask ∷ []) o.waits.shape; layouts = o.waits.layouts };
              off = it_ticked (client_id k) (client_id k) xs itself' o.owes;
              front = q;
              back = ls;
              is = refl;
              before = o.aside;
              behind = fine.1.0;
              few = omega (arith, both, m0, a0, l0, long, same, few);
            })));
            seqr_turn = seqr_same (client_id k) xs (seqr s) q (Ask ∷ ls) (omega (arith, m1, a1, l1)) (λ o. other_ticked (seqr_id p.seq) (client_id k) xs (client_not_seqr p.seq) o) d.seqr_turn;
          })

      idling : Idling late (own s) q done → Ticks late xs (net_ticked m h s k role.Client) (q ++ sent_ticked m h s k role.Client) done
      idling o = subst (λ (t : ClientTurn m). Ticks late xs (record s { clients = slice_set s.clients k t.now }) (q ++ map (packet_of m (client_id k)) t.sends) done) (sym (idle_ticks m h stopped k (first_layout h) (own s) o.none)) (
          let now = called m (own s) in
          let there = own_there m h stopped k p rules r rid starting stand servers s now d.base in
          let none = none_weigh m h stopped k p rules r rid starting stand servers in
          let e0 = none.0 in
          let e1 = none.1 in
          let both = weigh_both m h stopped k p q [] in
          let few = o.few in
          record {
            base = base_client m h stopped k p rules r rid starting stand servers s now d.base;
            at = d.at;
            one = d.one;
            each = each_both Fine q [] d.each tt;
            client_turn = subst (λ (z : Client m). ClientTurn' late xs z (q ++ []) done) (sym there) (inr (inl (record { none = o.none; is_late = o.is_late; aside = both_aside q [] o.aside tt; few = omega (arith, both, e0, few) })));
            seqr_turn = seqr_same (client_id k) xs (seqr s) q [] (omega (arith, e1)) (λ o. other_ticked (seqr_id p.seq) (client_id k) xs (client_not_seqr p.seq) o) d.seqr_turn;
          })

      by : ClientTurn' late (client_id k ∷ xs) (own s) q done → Ticks late xs (net_ticked m h s k role.Client) (q ++ sent_ticked m h s k role.Client) done
      by (inl o) = owing o
      by (inr (inl o)) = idling o
      by (inr (inr o)) = absurd (contrary itself' o.off.0)

  -- Any node.
  pub one_ticks : (late : Bool) (x : NodeId) (xs : List NodeId) (s : Net m) (q done : List Packet) → on_in m stopped s x ≡ true → Ticks late (x ∷ xs) s q done → Ticks late xs (net_ticked m h s x.num x.role) (q ++ sent_ticked m h s x.num x.role) done
  one_ticks late x xs s q done on d = by (node_eq x (client_id k)) (node_eq x (seqr_id p.seq)) refl refl
    where
      by : (a b : Bool) → node_eq x (client_id k) ≡ a → node_eq x (seqr_id p.seq) ≡ b → Ticks late xs (net_ticked m h s x.num x.role) (q ++ sent_ticked m h s x.num x.role) done
      by true b e f = subst (λ (y : NodeId). Ticks late (y ∷ xs) s q done → Ticks late xs (net_ticked m h s y.num y.role) (q ++ sent_ticked m h s y.num y.role) done) (sym (node_same x (client_id k) e)) (client_node late xs s q done) d
      by false true e f = subst (λ (y : NodeId). Ticks late (y ∷ xs) s q done → Ticks late xs (net_ticked m h s y.num y.role) (q ++ sent_ticked m h s y.num y.role) done) (sym (node_same x (seqr_id p.seq) f)) (seqr_node late xs s q done) d
      by false false e f = other_node late x.num x.role xs s q done (e, f) on d

  -- a node that has stopped
  pub none_ticks : (late : Bool) (x : NodeId) (xs : List NodeId) (s : Net m) (q done : List Packet) → on_in m stopped s x ≡ false → Ticks late (x ∷ xs) s q done → Ticks late xs s q done
  none_ticks late x xs s q done off d = record { base = d.base; at = d.at; one = d.one; each = d.each; client_turn = by d.client_turn; seqr_turn = of d.seqr_turn }
    where
      not_it : (n : NodeId) → on_in m stopped s n ≡ true → node_eq x n ≡ false
      not_it n on = go (node_eq x n) refl
        where
          go : (b : Bool) → node_eq x n ≡ b → node_eq x n ≡ false
          go true e = absurd (contrary (subst (λ (y : NodeId). on_in m stopped s y ≡ true) (sym (node_same x n e)) on) off)
          go false e = e

      by : ClientTurn' late (x ∷ xs) (own s) q done → ClientTurn' late xs (own s) q done
      by (inl o) = inl (record { waits = o.waits; owes = other_ticked (client_id k) x xs (not_it (client_id k) d.base.on) o.owes; aside = o.aside; few = o.few })
      by (inr (inl o)) = inr (inl o)
      by (inr (inr o)) = inr (inr (record { waits = o.waits; off = o.off.1; front = o.front; back = o.back; is = o.is; before = o.before; behind = o.behind; few = o.few }))

      of : SeqrTurn' (x ∷ xs) (seqr s) q → SeqrTurn' xs (seqr s) q
      of (inl o) = inl (other_ticked (seqr_id p.seq) x xs (not_it (seqr_id p.seq) d.base.seqr_on) o.0, o.1)
      of (inr o) = inr (o.0.1, o.1)
