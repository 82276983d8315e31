-- A drain while the new sequencer scans: each delivery keeps that its one request, or an answer that brings it on, is on its way.
use Rattle.std.proofs.Common.{◌≡◌, ◌⊎◌, ℕ, ◌+◌, ◌*◌, ◌<◌, ◌≤◌, List, [], ◌∷◌, ◌++◌, length, map, Bool, true, false, eqb, refl, ap, ◌∙◌, sym, subst, inl, inr, arith, Some, None, Option}
use Rattle.std.specs.Prelude.{slice_set}
use Rattle.tg_base.specs.Clusters.{Header}
use Rattle.tg_base.specs.Layouts.{Layout, IsLayout}
use Rattle.tg_base.specs.declared.ids.NodeId.{NodeId}
use Rattle.tg_base.specs.declared.ids.Role.TheVariants as role
use Rattle.tg_base.specs.declared.msg.Msg.{Msg}
use Rattle.tg_base.specs.declared.msg.Msg.TheVariants as msg
use Rattle.tg_base.specs.declared.packet.Out.{Out}
use Rattle.tg_base.specs.declared.packet.Packet.{Packet}
use Rattle.tg_kind.specs.Meaning.{Meaning}
use Rattle.tg_protocol.specs.Words.{unit_id, layout_id, seqr_id, client_id, too_far}
use Rattle.tg_protocol.specs.Requests.{out, awaits, drawn_from}
use Rattle.tg_protocol.specs.Replies.{IsScanning, reply}
use Rattle.tg_protocol.specs.Units.{unit_ask, unit_step}
use Rattle.tg_protocol.specs.LayoutServers.{layout_step}
use Rattle.tg_protocol.specs.Cells.{CellJob, place_in, cell_asks}
use Rattle.tg_protocol.specs.Sequencers.{SeqrState, SeqrTurn, seqr_asks, scanning, begun, stand_answer, seqr_step, scan_on}
use Rattle.tg_protocol.specs.Reconfiguring.{Reconf, ReconfWork, Starting, reconf_feed}
use Rattle.tg_protocol.specs.Clients.{Client, Work, Reconfiguring, Doing}
use Rattle.tg_protocol.specs.ClientSteps.{ClientTurn, hand_asks, task_asks, task_feed, client_asks, called, given, client_deliver, feed, on_reconf}
use Rattle.tg_protocol.specs.ClientSteps as steps
use Rattle.tg_protocol.specs.Worlds.{World, packet_of, answer_to}
use Rattle.tg_law_layouts.proofs.Moves.Members.{Has, has_left, has_right, has_either, has_filter}
use Rattle.tg_law_finish.proofs.Finish.Appends.{is_latest}
use Rattle.tg_law_finish.proofs.Finish.Counted.{is_of, one_if, cost}
use Rattle.tg_law_finish.proofs.Finish.Lines.{IsOver, idle_deliver}
use Rattle.tg_law_finish.proofs.Finish.Lists.{Each, each_both}
use Rattle.tg_law_finish.proofs.Finish.Nets.{Net, net, net_after, net_if, sent_then, sent_if, on_in, unit_of, layout_of, seqr_of, client_of}
use Rattle.tg_law_finish.proofs.Finish.Others.{weigh_both}
use Rattle.tg_law_finish.proofs.Finish.Strays.{is_plain}
use Rattle.tg_law_finish.proofs.Finish.Tasks.{TaskShape, shape_called, busied, task_fed, none_drawn}
use Rattle.tg_law_finish.proofs.Finish.Writers.{awaited_itself}
use Rattle.tg_law_reconfs.proofs.Answering.{awaited_one}
use Rattle.tg_law_reconfs.proofs.Grounds.{Answers, FaresBy}
use Rattle.tg_law_reconfs.proofs.Scanning.{Scan, step_sends}
use Rattle.tg_law_reconfs.proofs.ScanSteps.{contrary, num_same, num_itself, not_itself, from_of, to_of, unit_seqr, unit_layout, unit_client, seqr_layout, seqr_client, layout_client, unit_num, seqr_num, plain_none, each_has, ask_packet, scan_packet, told_packet, latest_packet, newest_packet, stand_packet, Stand, Ok, Scans, Scanned, AsksLatest, TellsLatest, Learns, Tells, scan_cost, scan_weight, Weight, Weigh, Costs, scan_off, scan_own, told_off, told_own, from_costs, to_costs, one_weighs, none_weigh, more_weigh, Seqr, Own, Base, base_seqr, base_client, own_there, seqr_there, Side, nothing_side, unit_side, layout_side, asks_are, asks_ok, asks_weigh, asks_own, other_seqr}
use Rattle.tg_law_reconfs.proofs.ScanSteps as it
use Rattle.tg_law_reconfs.proofs.ScanTurns.{Learnt, Moved, Rests, Asks, togo, span, NotAwaited, awaited_moves, passed, fresh, told_again, first_told, first_moves}
use Rattle.tg_law_reconfs.proofs.Starts.{tail_near, plain_tail, tail_ends}
use Rattle.tg_law_reconfs.proofs.Tapes.{sum_by, sum_both, same_append}

one_out : (a b : Out) → a ∷ [] ≡ b ∷ [] → a ≡ b
one_out a b e = cc

one_job : (a b : CellJob) → Some a ≡ Some b → a ≡ b
one_job a b e = cc

none_job : (j : CellJob) → None ≡ Some j → ⊥
none_job j e = cc

stands_zero : too_far 0 ≡ false
stands_zero = grind arith

module _ (m : Meaning) (h : Header) (stopped : List NodeId) (k : ℕ) (p : Layout) (rules : IsLayout p) (r : Reconf) (rid : ℕ) (starting : r.work ≡ Starting rid) (stand : r.stand ≡ p) (servers : ℕ) where
  abbrev ask : Out
  ask = out (seqr_id p.seq) rid (msg.Learn p)

  abbrev Ask : Packet
  Ask = ask_packet m h stopped k p rules r rid starting stand servers

  abbrev Scan' : ℕ → ℕ → Msg → Packet
  Scan' u i y = scan_packet m h stopped k p rules r rid starting stand servers p.seq u i y

  abbrev Told' : ℕ → ℕ → Msg → Packet
  Told' u i y = told_packet m h stopped k p rules r rid starting stand servers p.seq u i y

  abbrev Stand' : Msg → Packet
  Stand' y = stand_packet m h stopped k p rules r rid starting stand servers y

  abbrev Fine : Packet → Type 0
  Fine x = Ok m h stopped k p rules r rid starting stand servers x

  abbrev W : List Packet → ℕ
  W q = Weigh m h stopped k p rules r rid starting stand servers q

  abbrev S : List Packet → ℕ
  S q = sum_by (scan_weight m h stopped k p rules r rid starting stand servers) q

  abbrev Price : Packet → ℕ → ℕ → ℕ → ℕ → Type 0
  Price x a b c d = Costs m h stopped k p rules r rid starting stand servers x a b c d

  abbrev Nodes : Net m → Type 0
  Nodes s = Base m h stopped k p rules r rid starting stand servers s

  abbrev Apart : Net m → Net m → List Packet → ℕ → ℕ → Type 0
  Apart s t sent a c = Side m h stopped k p rules r rid starting stand servers s t sent a c

  abbrev seqr : Net m → SeqrState
  seqr s = seqr_of m h s p.seq

  abbrev own : Net m → Client m
  own s = client_of m h s k

  -- The scan's request is on its way, or an answer to it; and each answer that it awaits brings it on.
  pub record Flows (y : SeqrState) (q : List Packet) : Type 0 where
    pub live : (j : CellJob) (u i : ℕ) (z : Msg) → y.scan ≡ Some j → cell_asks j ≡ out (unit_id u) i z ∷ [] → Has q (Scan' u i z) ⊎ ((a : Msg) × Has q (Told' u i a))
    pub good : (j : CellJob) (v i : ℕ) (z : Msg) → y.scan ≡ Some j → Has q (Told' v i z) → awaits (cell_asks j) (unit_id v) i ≡ true → FaresBy j z

  -- the client waits, or has been told
  pub record Waits (c : Client m) : Type 0 where
    pub shape : TaskShape m h stopped k p 0 c (Reconfiguring r) (ask ∷ [])
    pub layouts : c.layouts ≡ servers

  abbrev pub ClientAt : Client m → Type 0
  ClientAt c = Waits c ⊎ (c.work ≡ None)

  -- it is about to be told
  abbrev pub Flight : List Packet → Type 0
  Flight q = Has q Ask ⊎ ((t : ℕ) × (too_far t ≡ false) × Has q (Stand' (msg.Tail t [])))

  -- in how many rounds of ticks the client may yet ask
  abbrev pub rounds_left : Bool → ℕ
  rounds_left true = 0
  rounds_left false = 2 * servers + 2

  abbrev pub spent : List Packet → ℕ
  spent done = sum_by (λ x. one_if (is_of k x)) done

  abbrev pub scanned : List Packet → ℕ
  scanned done = sum_by (scan_cost m h stopped k p rules r rid starting stand servers) done

  abbrev pub Late : Bool → SeqrState → Client m → List Packet → Type 0
  Late late y c q = late ≡ true → (y.scan ≡ None) × ((c.work ≡ None) ⊎ Flight q)

  -- Once the sequencer has learnt its layout. Late: it has scanned, too.
  pub record During (late : Bool) (s : Net m) (q done : List Packet) : Type 0 where
    pub base : Nodes s
    pub learnt : Learnt p rules (seqr s)
    pub client : ClientAt (own s)
    pub each : Each Fine q
    pub flows : Flows (seqr s) q
    pub few : spent done + W q + rounds_left late ≤ 4 * servers + 4
    pub scans : scanned done + S q + 2 * togo p rules (seqr s) ≤ 2 * span p rules p.start + 2
    pub late_is : Late late (seqr s) (own s) q

  -- before that: it hasn't been told yet, and what it asked last isn't answered before it is
  abbrev pub NotTo : Packet → Type 0
  NotTo x = (x.to ≡ seqr_id p.seq → ⊥) × (x.to ≡ client_id k → ⊥)

  pub record Before (s : Net m) (q done : List Packet) : Type 0 where
    pub base : Nodes s
    pub num : (seqr s).num ≡ p.seq
    pub old : (seqr s).epoch < p.epoch
    pub client : Waits (own s)
    pub front : List Packet
    pub back : List Packet
    pub is : q ≡ front ++ Ask ∷ back
    pub each : Each Fine q
    pub first : Each NotTo front
    pub few : spent done + W q + (2 * servers + 2) ≤ 4 * servers + 4
    pub scans : scanned done + S q ≤ 2

  -- what is known of the world
  pub record Knows (w : World m) (y : SeqrState) : Type 0 where
    pub answers : (j : CellJob) → y.scan ≡ Some j → Answers m stopped w j
    pub at : (j : CellJob) → y.scan ≡ Some j → j.place ≡ place_in y.proj y.next
    pub asked : (j : CellJob) (u i : ℕ) (z : Msg) → y.scan ≡ Some j → Has w.packets (Scan' u i z) → Scan (unit_ask z) → awaits (cell_asks j) (unit_id u) i ≡ true → cell_asks j ≡ out (unit_id u) i z ∷ []
    pub near : too_far y.next ≡ false

  abbrev pub Older : World m → SeqrState → Type 0
  Older w y = (u i : ℕ) (z : Msg) → Has w.packets (Told' u i z) → i < y.rids

  -- A step.

  ends_both : (x : Packet) (q : List Packet) → (W (x ∷ q) ≡ Weight m h stopped k p rules r rid starting stand servers x + W q) × (S (x ∷ q) ≡ scan_weight m h stopped k p rules r rid starting stand servers x + S q)
  ends_both x q = more_weigh m h stopped k p rules r rid starting stand servers x q

  spends : (x : Packet) (done : List Packet) → (spent (x ∷ done) ≡ cost k (Some x) + spent done) × (scanned (x ∷ done) ≡ scan_cost m h stopped k p rules r rid starting stand servers x + scanned done)
  unfolding sum_by
  spends x done = (refl, refl)

  -- what a delivery leaves
  pub step_on : (late : Bool) (s t : Net m) (x : Packet) (q sent done : List Packet) (a b c e : ℕ) (u v : ℕ) → Price x a b c e → During late s (x ∷ q) done → Nodes t → Learnt p rules (seqr t) → ClientAt (own t) → Each Fine sent → Flows (seqr t) (q ++ sent)
      → W sent ≤ u → u + b ≤ a → S sent ≤ v → v + e + 2 * togo p rules (seqr t) ≤ c + 2 * togo p rules (seqr s) → Late late (seqr t) (own t) (q ++ sent) → During late t (q ++ sent) (x ∷ done)
  step_on late s t x q sent done a b c e u v price d base learnt client each flows light pays few less late' =
      let w = ends_both x q in
      let w0 = w.0 in
      let w1 = w.1 in
      let o = spends x done in
      let o0 = o.0 in
      let o1 = o.1 in
      let f0 = price.weighs in
      let f1 = price.costs in
      let f2 = price.scan_weighs in
      let f3 = price.scan_costs in
      let g0 = d.few in
      let g1 = d.scans in
      let both = weigh_both m h stopped k p q sent in
      let sums = sum_both (scan_weight m h stopped k p rules r rid starting stand servers) q sent in
      record {
        base = base;
        learnt = learnt;
        client = client;
        each = each_both Fine q sent d.each.1 each;
        flows = flows;
        few = omega (arith, w0, o0, f0, f1, g0, both, light, pays);
        scans = omega (arith, w1, o1, f2, f3, g1, sums, few, less);
        late_is = late';
      }

  -- What isn't of the scan leaves it as it is.
  flows_on : (y : SeqrState) (x : Packet) (q sent : List Packet) → ((u i : ℕ) (z : Msg) → Scan' u i z ≡ x → ⊥) → ((u i : ℕ) (z : Msg) → Told' u i z ≡ x → ⊥) → ((u i : ℕ) (z : Msg) → Has sent (Told' u i z) → ⊥) → Flows y (x ∷ q) → Flows y (q ++ sent)
  flows_on y x q sent no_ask no_answer none f = record { live = λ j u i z has is. by u i z (f.live j u i z has is); good = λ j v i z has there awaited. of j v i z has (has_either q sent (Told' v i z) there) awaited }
    where
      by : (u i : ℕ) (z : Msg) → Has (x ∷ q) (Scan' u i z) ⊎ ((a : Msg) × Has (x ∷ q) (Told' u i a)) → Has (q ++ sent) (Scan' u i z) ⊎ ((a : Msg) × Has (q ++ sent) (Told' u i a))
      by u i z (inl (inl e)) = absurd (no_ask u i z e)
      by u i z (inl (inr g)) = inl (has_left q sent _ g)
      by u i z (inr (a, inl e)) = absurd (no_answer u i a e)
      by u i z (inr (a, inr g)) = inr (a, has_left q sent _ g)

      of : (j : CellJob) (v i : ℕ) (z : Msg) → y.scan ≡ Some j → Has q (Told' v i z) ⊎ Has sent (Told' v i z) → awaits (cell_asks j) (unit_id v) i ≡ true → FaresBy j z
      of j v i z has (inl g) awaited = f.good j v i z has (inr g) awaited
      of j v i z has (inr g) awaited = absurd (none v i z g)

  flows_same : (y z : SeqrState) (q : List Packet) → z ≡ y → Flows y q → Flows z q
  flows_same y z q e f = subst (λ (x : SeqrState). Flows x q) (sym e) f

  -- the job that it has then is new
  fresh_flows : (y : SeqrState) (q sent : List Packet) (t : SeqrTurn) (now : SeqrState) → now ≡ t.now → Rests p rules t ⊎ Asks p rules y t → ((z : Packet) → Has (map (packet_of m (seqr_id p.seq)) t.sends) z → Has sent z) → ((u i : ℕ) (z : Msg) → Has sent (Told' u i z) → ⊥)
      → ((u i : ℕ) (z : Msg) → Has q (Told' u i z) → i < y.rids) → Flows now (q ++ sent)
  fresh_flows y q sent t now same (inl rests) sends none older = record { live = λ j v n z has is. absurd (none_job j (sym rests.none ∙ (ap (λ (a : SeqrState). a.scan) (sym same) ∙ has))); good = λ j v n z has g awaited. absurd (none_job j (sym rests.none ∙ (ap (λ (a : SeqrState). a.scan) (sym same) ∙ has))) }
  fresh_flows y q sent t now same (inr asks) sends none older = record { live = λ j v n z has is. inl (has_right q sent _ (sends _ (live j v n z has is))); good = λ j v n z has g awaited. absurd (good j v n z has (has_either q sent (Told' v n z) g) awaited) }
    where
      job : (j : CellJob) → now.scan ≡ Some j → asks.job ≡ j
      job j has = one_job _ _ (sym asks.has ∙ (ap (λ (a : SeqrState). a.scan) (sym same) ∙ has))

      live : (j : CellJob) (v n : ℕ) (z : Msg) → now.scan ≡ Some j → cell_asks j ≡ out (unit_id v) n z ∷ [] → Has (map (packet_of m (seqr_id p.seq)) t.sends) (Scan' v n z)
      live j v n z has is = subst (λ (os : List Out). Has (map (packet_of m (seqr_id p.seq)) os) (Scan' v n z)) (sym (asks.sends ∙ (ap cell_asks (job j has) ∙ is))) (inl refl)

      number : (j : CellJob) (v n : ℕ) → now.scan ≡ Some j → awaits (cell_asks j) (unit_id v) n ≡ true → n ≡ y.rids
      number j v n has awaited = by (awaited_one (cell_asks j) (unit_id v) n awaited)
        where
          of : (a : Msg) → Has (out (unit_id asks.unit) y.rids asks.says ∷ []) (out (unit_id v) n a) → n ≡ y.rids
          of a (inl e) = ap (λ (o : Out). o.rid) e
          of a (inr g) = absurd g

          by : (a : Msg) × Has (cell_asks j) (out (unit_id v) n a) → n ≡ y.rids
          by (a, g) = of a (subst (λ (os : List Out). Has os (out (unit_id v) n a)) (ap cell_asks (sym (job j has)) ∙ asks.is) g)

      good : (j : CellJob) (v n : ℕ) (z : Msg) → now.scan ≡ Some j → Has q (Told' v n z) ⊎ Has sent (Told' v n z) → awaits (cell_asks j) (unit_id v) n ≡ true → ⊥
      good j v n z has (inl g) awaited = let e = number j v n has awaited in let less = older v n z g in absurd (omega (arith, e, less))
      good j v n z has (inr g) awaited = none v n z g

  flight_on : (x : Packet) (q sent : List Packet) → (Ask ≡ x → ⊥) → ((t : ℕ) → Stand' (msg.Tail t []) ≡ x → ⊥) → Flight (x ∷ q) → Flight (q ++ sent)
  flight_on x q sent no_ask no_tail (inl (inl e)) = absurd (no_ask e)
  flight_on x q sent no_ask no_tail (inl (inr g)) = inl (has_left q sent _ g)
  flight_on x q sent no_ask no_tail (inr (t, near, inl e)) = absurd (no_tail t e)
  flight_on x q sent no_ask no_tail (inr (t, near, inr g)) = inr (t, near, has_left q sent _ g)

  -- Turns of other nodes.

  side_on : (late : Bool) (s t : Net m) (x : Packet) (q sent done : List Packet) (a b c e u v : ℕ) → Price x a b c e → During late s (x ∷ q) done → Apart s t sent u v → u + b ≤ a → v + e ≤ c → Flows (seqr s) (q ++ sent) → (Flight (x ∷ q) → Flight (q ++ sent)) → During late t (q ++ sent) (x ∷ done)
  side_on late s t x q sent done a b c e u v price d f pays less flows flight =
      let same = ap (λ (y : SeqrState). togo p rules y) f.seqr in
      step_on late s t x q sent done a b c e u v price d f.base (subst (λ (y : SeqrState). Learnt p rules y) (sym f.seqr) d.learnt) (subst (λ (z : Client m). ClientAt z) (sym f.client) d.client) f.each (flows_same (seqr s) (seqr t) (q ++ sent) f.seqr flows)
      f.few pays f.scans (omega (arith, same, less)) (subst (λ (y : SeqrState). Late late y (own t) (q ++ sent)) (sym f.seqr) (subst (λ (z : Client m). Late late (seqr s) z (q ++ sent)) (sym f.client) (λ l. let g = d.late_is l in (g.0, by g.1))))
    where
      by : ((own s).work ≡ None) ⊎ Flight (x ∷ q) → ((own s).work ≡ None) ⊎ Flight (q ++ sent)
      by (inl n) = inl n
      by (inr g) = inr (flight g)

  is_told : (a : Packet) (o : Option Msg) (z : Packet) → Has (answer_to m a o) z → (z.to ≡ a.from) × (z.from ≡ a.to)
  is_told a None z g = absurd g
  is_told a (Some y) z (inl e) = (to_of z _ e, from_of z _ e)
  is_told a (Some y) z (inr g) = absurd g

  is_sent : (n : NodeId) (os : List Out) (z : Packet) → Has (map (packet_of m n) os) z → z.from ≡ n
  is_sent n [] z g = absurd g
  is_sent n (o ∷ os) z (inl e) = from_of z _ e
  is_sent n (o ∷ os) z (inr g) = is_sent n os z g

  -- a packet to a node that has stopped
  dropped : (late : Bool) (s : Net m) (x : Packet) (q done : List Packet) (a b c e : ℕ) → Price x a b c e → b ≤ a → e ≤ c → During late s (x ∷ q) done → ((u i : ℕ) (z : Msg) → Scan' u i z ≡ x → ⊥) → ((u i : ℕ) (z : Msg) → Told' u i z ≡ x → ⊥) → (Ask ≡ x → ⊥) → ((t : ℕ) → Stand' (msg.Tail t []) ≡ x → ⊥) → During late s (q ++ []) (x ∷ done)
  dropped late s x q done a b c e price le less d n1 n2 n3 n4 = side_on late s s x q [] done a b c e 0 0 price d (nothing_side m h stopped k p rules r rid starting stand servers s d.base) (omega (arith, le)) (omega (arith, less))
      (flows_on (seqr s) x q [] n1 n2 (λ u i z g. g) d.flows) (flight_on x q [] n3 n4)

  -- Each kind of packet.
  module _ (late : Bool) (w : World m) (q done : List Packet) where
    -- another sequencer's request
    others_scan : (x u i : ℕ) (y : Msg) → eqb p.seq x ≡ false → Scan (unit_ask y) → (b : Bool) → During late (net m w) (scan_packet m h stopped k p rules r rid starting stand servers x u i y ∷ q) done
        → During late (net_if m b h (net m w) (scan_packet m h stopped k p rules r rid starting stand servers x u i y)) (q ++ sent_if m b h (net m w) (scan_packet m h stopped k p rules r rid starting stand servers x u i y)) (scan_packet m h stopped k p rules r rid starting stand servers x u i y ∷ done)
    others_scan x u i y off scan b d = by b
      where
        n1 : (v j : ℕ) (a : Msg) → Scan' v j a ≡ record { from = seqr_id x; to = unit_id u; rid = i; msg = y } → ⊥
        n1 v j a e = not_itself p.seq x (seqr_num p.seq x (from_of _ _ e)) off

        n2 : (v j : ℕ) (a : Msg) → Told' v j a ≡ record { from = seqr_id x; to = unit_id u; rid = i; msg = y } → ⊥
        n2 v j a e = unit_seqr v x (from_of _ _ e)

        n3 : Ask ≡ record { from = seqr_id x; to = unit_id u; rid = i; msg = y } → ⊥
        n3 e = seqr_client x k (sym (from_of _ _ e))

        n4 : (t : ℕ) → Stand' (msg.Tail t []) ≡ record { from = seqr_id x; to = unit_id u; rid = i; msg = y } → ⊥
        n4 t e = unit_client u k (sym (to_of _ _ e))

        price : Price (record { from = seqr_id x; to = unit_id u; rid = i; msg = y }) 0 0 0 0
        price = scan_off m h stopped k p rules r rid starting stand servers x u i y off

        by : (b : Bool) → During late (net_if m b h (net m w) (record { from = seqr_id x; to = unit_id u; rid = i; msg = y })) (q ++ sent_if m b h (net m w) (record { from = seqr_id x; to = unit_id u; rid = i; msg = y })) (record { from = seqr_id x; to = unit_id u; rid = i; msg = y } ∷ done)
        by false = dropped late (net m w) _ q done 0 0 0 0 price (omega arith) (omega arith) d n1 n2 n3 n4
        by true = side_on late (net m w) _ _ q _ done 0 0 0 0 0 0 price d (unit_side m h stopped k p rules r rid starting stand servers (net m w) x u i y 0 scan (λ a. told_off m h stopped k p rules r rid starting stand servers x u i a off) d.base) (omega arith) (omega arith)
            (flows_on (seqr (net m w)) _ q _ n1 n2 (λ v j a g. not_itself p.seq x (seqr_num p.seq x (is_told (record { from = seqr_id x; to = unit_id u; rid = i; msg = y }) (unit_step (unit_of m (net m w) u) y).says (Told' v j a) g).0) off) d.flows) (flight_on _ q _ n3 n4)

    -- its own
    own_scan : (u i : ℕ) (y : Msg) → Scan (unit_ask y) → Knows w (seqr (net m w)) → Has w.packets (Scan' u i y) → (b : Bool) → on_in m stopped (net m w) (unit_id u) ≡ b → During late (net m w) (Scan' u i y ∷ q) done
        → During late (net_if m b h (net m w) (Scan' u i y)) (q ++ sent_if m b h (net m w) (Scan' u i y)) (Scan' u i y ∷ done)
    own_scan u i y scan knows sent b is d = by b is
      where
        n2 : (v j : ℕ) (a : Msg) → Told' v j a ≡ Scan' u i y → ⊥
        n2 v j a e = unit_seqr v p.seq (from_of _ _ e)

        n3 : Ask ≡ Scan' u i y → ⊥
        n3 e = seqr_client p.seq k (sym (from_of _ _ e))

        n4 : (t : ℕ) → Stand' (msg.Tail t []) ≡ Scan' u i y → ⊥
        n4 t e = unit_client u k (sym (to_of _ _ e))

        price : Price (Scan' u i y) 0 0 2 1
        price = scan_own m h stopped k p rules r rid starting stand servers p.seq u i y (num_itself p.seq)

        same_out : (v j : ℕ) (a : Msg) → Scan' v j a ≡ Scan' u i y → out (unit_id v) j a ≡ out (unit_id u) i y
        same_out v j a e = ap (λ (z : Packet). out z.to z.rid z.msg) e

        -- it is the one that is awaited, so the unit runs
        runs_it : (j : CellJob) → (seqr (net m w)).scan ≡ Some j → cell_asks j ≡ out (unit_id u) i y ∷ [] → on_in m stopped (net m w) (unit_id u) ≡ true
        runs_it j has e = let a = knows.answers j has in subst (λ (n : NodeId). on_in m stopped (net m w) n ≡ true) (ap (λ (o : Out). o.to) (one_out _ _ (sym a.is ∙ e))) a.on

        told_it : (j : CellJob) → (seqr (net m w)).scan ≡ Some j → cell_asks j ≡ out (unit_id u) i y ∷ [] → (z : Msg) × ((unit_step (unit_of m (net m w) u) y).says ≡ Some z) × FaresBy j z
        told_it j has e =
            let a = knows.answers j has in
            let o = one_out _ _ (sym a.is ∙ e) in
            (a.answer, subst (λ (x : Out). (unit_step (unit_of m (net m w) x.to.num) x.msg).says ≡ Some a.answer) o a.told, a.fares)

        flows : (sent : List Packet) → ((j : CellJob) → (seqr (net m w)).scan ≡ Some j → cell_asks j ≡ out (unit_id u) i y ∷ [] → (z : Msg) × Has sent (Told' u i z))
            → ((j : CellJob) (v n : ℕ) (z : Msg) → (seqr (net m w)).scan ≡ Some j → Has sent (Told' v n z) → awaits (cell_asks j) (unit_id v) n ≡ true → FaresBy j z) → Flows (seqr (net m w)) (q ++ sent)
        flows sent answered fares = record { live = λ j v n z has e. live j v n z has e (d.flows.live j v n z has e); good = λ j v n z has there awaited. good j v n z has (has_either q sent (Told' v n z) there) awaited }
          where
            live : (j : CellJob) (v n : ℕ) (z : Msg) → (seqr (net m w)).scan ≡ Some j → cell_asks j ≡ out (unit_id v) n z ∷ [] → Has (Scan' u i y ∷ q) (Scan' v n z) ⊎ ((a : Msg) × Has (Scan' u i y ∷ q) (Told' v n a)) → Has (q ++ sent) (Scan' v n z) ⊎ ((a : Msg) × Has (q ++ sent) (Told' v n a))
            live j v n z has e (inl (inl g)) =
                let o = same_out v n z g in
                let a = answered j has (e ∙ ap (λ (x : Out). x ∷ []) o) in
                inr (a.0, has_right q sent _ (subst (λ (x : Out). Has sent (record { from = x.to; to = seqr_id p.seq; rid = x.rid; msg = a.0 })) (sym o) a.1))
            live j v n z has e (inl (inr g)) = inl (has_left q sent _ g)
            live j v n z has e (inr (a, inl g)) = absurd (n2 v n a g)
            live j v n z has e (inr (a, inr g)) = inr (a, has_left q sent _ g)

            good : (j : CellJob) (v n : ℕ) (z : Msg) → (seqr (net m w)).scan ≡ Some j → Has q (Told' v n z) ⊎ Has sent (Told' v n z) → awaits (cell_asks j) (unit_id v) n ≡ true → FaresBy j z
            good j v n z has (inl g) awaited = d.flows.good j v n z has (inr g) awaited
            good j v n z has (inr g) awaited = fares j v n z has g awaited

        answer_there : (o : Option Msg) (z : Msg) → o ≡ Some z → Has (answer_to m (Scan' u i y) o) (Told' u i z)
        answer_there o z e = subst (λ (x : Option Msg). Has (answer_to m (Scan' u i y) x) (Told' u i z)) (sym e) (inl refl)

        answer_is : (o : Option Msg) (v n : ℕ) (z : Msg) → Has (answer_to m (Scan' u i y) o) (Told' v n z) → (o ≡ Some z) × ((v ≡ u) × (n ≡ i))
        answer_is None v n z g = absurd g
        answer_is (Some x) v n z (inl e) = (ap (λ (a : Packet). Some a.msg) (sym e), (unit_num v u (from_of _ _ e), ap (λ (a : Packet). a.rid) e))
        answer_is (Some x) v n z (inr g) = absurd g

        one_msg : (a b : Msg) → Some a ≡ Some b → a ≡ b
        one_msg a b e = cc

        by : (b : Bool) → on_in m stopped (net m w) (unit_id u) ≡ b → During late (net_if m b h (net m w) (Scan' u i y)) (q ++ sent_if m b h (net m w) (Scan' u i y)) (Scan' u i y ∷ done)
        by false is = side_on late (net m w) (net m w) _ q [] done 0 0 2 1 0 0 price d (nothing_side m h stopped k p rules r rid starting stand servers (net m w) d.base) (omega arith) (omega arith)
            (flows [] (λ j has e. absurd (contrary (runs_it j has e) is)) (λ j v n z has g awaited. absurd g)) (flight_on _ q [] n3 n4)
        by true is = side_on late (net m w) _ _ q _ done 0 0 2 1 0 1 price d (unit_side m h stopped k p rules r rid starting stand servers (net m w) p.seq u i y 1 scan (λ a. told_own m h stopped k p rules r rid starting stand servers p.seq u i a (num_itself p.seq)) d.base) (omega arith) (omega arith)
            (flows _ (λ j has e. let t = told_it j has e in (t.0, answer_there _ t.0 t.1)) (λ j v n z has g awaited.
            let x = answer_is (unit_step (unit_of m (net m w) u) y).says v n z g in
            let a = knows.asked j u i y has sent scan (subst (λ (e : ℕ). awaits (cell_asks j) (unit_id e) i ≡ true) x.1.0 (subst (λ (e : ℕ). awaits (cell_asks j) (unit_id v) e ≡ true) x.1.1 awaited)) in
            let t = told_it j has a in
            subst (λ (e : Msg). FaresBy j e) (one_msg t.0 z (sym t.1 ∙ x.0)) t.2)) (flight_on _ q _ n3 n4)

    -- an answer to another sequencer
    others_told : (x u i : ℕ) (y : Msg) → eqb p.seq x ≡ false → is_plain y ≡ true → (b : Bool) → During late (net m w) (told_packet m h stopped k p rules r rid starting stand servers x u i y ∷ q) done
        → During late (net_if m b h (net m w) (told_packet m h stopped k p rules r rid starting stand servers x u i y)) (q ++ sent_if m b h (net m w) (told_packet m h stopped k p rules r rid starting stand servers x u i y)) (told_packet m h stopped k p rules r rid starting stand servers x u i y ∷ done)
    others_told x u i y off plain b d = by b
      where
        n1 : (v j : ℕ) (a : Msg) → Scan' v j a ≡ record { from = unit_id u; to = seqr_id x; rid = i; msg = y } → ⊥
        n1 v j a e = unit_seqr u p.seq (sym (from_of _ _ e))

        n2 : (v j : ℕ) (a : Msg) → Told' v j a ≡ record { from = unit_id u; to = seqr_id x; rid = i; msg = y } → ⊥
        n2 v j a e = not_itself p.seq x (seqr_num p.seq x (to_of _ _ e)) off

        n3 : Ask ≡ record { from = unit_id u; to = seqr_id x; rid = i; msg = y } → ⊥
        n3 e = unit_client u k (sym (from_of _ _ e))

        n4 : (t : ℕ) → Stand' (msg.Tail t []) ≡ record { from = unit_id u; to = seqr_id x; rid = i; msg = y } → ⊥
        n4 t e = seqr_client x k (sym (to_of _ _ e))

        price : Price (record { from = unit_id u; to = seqr_id x; rid = i; msg = y }) 0 0 0 0
        price = told_off m h stopped k p rules r rid starting stand servers x u i y off

        t : SeqrTurn
        t = seqr_step (seqr_of m h (net m w) x) (unit_id u) i y

        by : (b : Bool) → During late (net_if m b h (net m w) (record { from = unit_id u; to = seqr_id x; rid = i; msg = y })) (q ++ sent_if m b h (net m w) (record { from = unit_id u; to = seqr_id x; rid = i; msg = y })) (record { from = unit_id u; to = seqr_id x; rid = i; msg = y } ∷ done)
        by false = dropped late (net m w) _ q done 0 0 0 0 price (omega arith) (omega arith) d n1 n2 n3 n4
        by true = side_on late (net m w) _ _ q _ done 0 0 0 0 0 0 price d (other_seqr m h stopped k p rules r rid starting stand servers (net m w) x t off (λ o has. step_sends (seqr_of m h (net m w) x) (unit_id u) i y (plain_none y plain) o has) d.base) (omega arith) (omega arith)
            (flows_on (seqr (net m w)) _ q _ n1 n2 (λ v j a g. unit_seqr v x (is_sent (seqr_id x) t.sends _ g)) d.flows) (flight_on _ q _ n3 n4)

    -- the question for the latest layout
    latest_asked : (n i : ℕ) (b : Bool) → During late (net m w) (latest_packet m h stopped k p rules r rid starting stand servers n i ∷ q) done
        → During late (net_if m b h (net m w) (latest_packet m h stopped k p rules r rid starting stand servers n i)) (q ++ sent_if m b h (net m w) (latest_packet m h stopped k p rules r rid starting stand servers n i)) (latest_packet m h stopped k p rules r rid starting stand servers n i ∷ done)
    latest_asked n i b d = by b
      where
        n1 : (v j : ℕ) (a : Msg) → Scan' v j a ≡ record { from = client_id k; to = layout_id n; rid = i; msg = msg.AskLatest } → ⊥
        n1 v j a e = seqr_client p.seq k (from_of _ _ e)

        n2 : (v j : ℕ) (a : Msg) → Told' v j a ≡ record { from = client_id k; to = layout_id n; rid = i; msg = msg.AskLatest } → ⊥
        n2 v j a e = unit_client v k (from_of _ _ e)

        n3 : Ask ≡ record { from = client_id k; to = layout_id n; rid = i; msg = msg.AskLatest } → ⊥
        n3 e = seqr_layout p.seq n (to_of _ _ e)

        n4 : (t : ℕ) → Stand' (msg.Tail t []) ≡ record { from = client_id k; to = layout_id n; rid = i; msg = msg.AskLatest } → ⊥
        n4 t e = seqr_client p.seq k (from_of _ _ e)

        price : Price (record { from = client_id k; to = layout_id n; rid = i; msg = msg.AskLatest }) 2 1 0 0
        price = from_costs m h stopped k p rules r rid starting stand servers (out (layout_id n) i msg.AskLatest)

        by : (b : Bool) → During late (net_if m b h (net m w) (record { from = client_id k; to = layout_id n; rid = i; msg = msg.AskLatest })) (q ++ sent_if m b h (net m w) (record { from = client_id k; to = layout_id n; rid = i; msg = msg.AskLatest })) (record { from = client_id k; to = layout_id n; rid = i; msg = msg.AskLatest } ∷ done)
        by false = dropped late (net m w) _ q done 2 1 0 0 price (omega arith) (omega arith) d n1 n2 n3 n4
        by true = side_on late (net m w) _ _ q _ done 2 1 0 0 1 0 price d (layout_side m h stopped k p rules r rid starting stand servers (net m w) n i d.base) (omega arith) (omega arith)
            (flows_on (seqr (net m w)) _ q _ n1 n2 (λ v j a g. unit_layout v n (is_told (record { from = client_id k; to = layout_id n; rid = i; msg = msg.AskLatest }) (layout_step (layout_of m h (net m w) n) msg.AskLatest).says (Told' v j a) g).1) d.flows) (flight_on _ q _ n3 n4)

    -- The sequencer's own turn.

    abbrev Turned : Packet → SeqrTurn → Type 0
    Turned x t = During late (record { units = w.units; layouts = w.layouts; seqrs = slice_set w.seqrs p.seq t.now; clients = w.clients }) (q ++ map (packet_of m (seqr_id p.seq)) t.sends) (x ∷ done)

    own_answer : (u i : ℕ) (y : Msg) → is_plain y ≡ true → Knows w (seqr (net m w)) → Older w (seqr (net m w)) → ((x : Packet) → Has (Told' u i y ∷ q) x → Has w.packets x) → During late (net m w) (Told' u i y ∷ q) done
        → During late (net_after m h (net m w) (Told' u i y) role.Seqr) (q ++ sent_then m h (net m w) (Told' u i y) role.Seqr) (Told' u i y ∷ done)
    own_answer u i y plain knows older sent d = by (seqr (net m w)).scan refl
      where
        price : Price (Told' u i y) 0 0 1 1
        price = told_own m h stopped k p rules r rid starting stand servers p.seq u i y (num_itself p.seq)

        n1 : (v j : ℕ) (a : Msg) → Scan' v j a ≡ Told' u i y → ⊥
        n1 v j a e = unit_seqr u p.seq (sym (from_of _ _ e))

        n3 : Ask ≡ Told' u i y → ⊥
        n3 e = unit_client u k (sym (from_of _ _ e))

        n4 : (t : ℕ) → Stand' (msg.Tail t []) ≡ Told' u i y → ⊥
        n4 t e = seqr_client p.seq k (sym (to_of _ _ e))

        -- it isn't awaited
        off : NotAwaited p rules (seqr_of m h (net m w) p.seq) (unit_id u) i → Turned (Told' u i y) (record { now = seqr_of m h (net m w) p.seq; sends = [] })
        off not =
            let there = seqr_there m h stopped k p rules r rid starting stand servers (net m w) (seqr_of m h (net m w) p.seq) d.base in
            side_on late (net m w) _ _ q [] done 0 0 1 1 0 0 price d (record { base = base_seqr m h stopped k p rules r rid starting stand servers (net m w) p.seq (seqr_of m h (net m w) p.seq) d.base; seqr = there; client = refl; each = tt; few = let e = (none_weigh m h stopped k p rules r rid starting stand servers).0 in omega (arith, e); scans = let e = (none_weigh m h stopped k p rules r rid starting stand servers).1 in omega (arith, e) }) (omega arith) (omega arith)
            (record { live = λ j v n z has is. live j v n z has is (d.flows.live j v n z has is); good = λ j v n z has g awaited. good j v n z has (has_either q [] (Told' v n z) g) awaited }) (flight_on _ q [] n3 n4)
          where
            itself : (j : CellJob) (v n : ℕ) (z a : Msg) → (seqr_of m h (net m w) p.seq).scan ≡ Some j → cell_asks j ≡ out (unit_id v) n z ∷ [] → Told' v n a ≡ Told' u i y → ⊥
            itself j v n z a has is e =
                let aw = subst (λ (os : List Out). awaits os (unit_id v) n ≡ true) (sym is) (awaited_itself m h stopped k p 0 (out (unit_id v) n z)) in
                contrary (subst (λ (b : NodeId). awaits (cell_asks j) b i ≡ true) (from_of _ _ e) (subst (λ (b : ℕ). awaits (cell_asks j) (unit_id v) b ≡ true) (ap (λ (b : Packet). b.rid) e) aw)) (not j has)

            live : (j : CellJob) (v n : ℕ) (z : Msg) → (seqr_of m h (net m w) p.seq).scan ≡ Some j → cell_asks j ≡ out (unit_id v) n z ∷ [] → Has (Told' u i y ∷ q) (Scan' v n z) ⊎ ((a : Msg) × Has (Told' u i y ∷ q) (Told' v n a)) → Has (q ++ []) (Scan' v n z) ⊎ ((a : Msg) × Has (q ++ []) (Told' v n a))
            live j v n z has is (inl (inl e)) = absurd (n1 v n z e)
            live j v n z has is (inl (inr g)) = inl (has_left q [] _ g)
            live j v n z has is (inr (a, inl e)) = absurd (itself j v n z a has is e)
            live j v n z has is (inr (a, inr g)) = inr (a, has_left q [] _ g)

            good : (j : CellJob) (v n : ℕ) (z : Msg) → (seqr_of m h (net m w) p.seq).scan ≡ Some j → Has q (Told' v n z) ⊎ Has {X = Packet} [] (Told' v n z) → awaits (cell_asks j) (unit_id v) n ≡ true → FaresBy j z
            good j v n z has (inl g) awaited = d.flows.good j v n z has (inr g) awaited
            good j v n z has (inr g) awaited = absurd g

        passes : NotAwaited p rules (seqr_of m h (net m w) p.seq) (unit_id u) i → Turned (Told' u i y) (seqr_step (seqr_of m h (net m w) p.seq) (unit_id u) i y)
        passes not = subst (λ (t : SeqrTurn). Turned (Told' u i y) t) (sym (passed p rules (seqr_of m h (net m w) p.seq) (unit_id u) i y plain not)) (off not)

        moves : (j : CellJob) → (seqr_of m h (net m w) p.seq).scan ≡ Some j → Moved p rules (seqr_of m h (net m w) p.seq) (seqr_step (seqr_of m h (net m w) p.seq) (unit_id u) i y) (togo p rules (seqr_of m h (net m w) p.seq)) → Turned (Told' u i y) (seqr_step (seqr_of m h (net m w) p.seq) (unit_id u) i y)
        moves j has mv =
            let y' = seqr_of m h (net m w) p.seq in
            let t' = seqr_step (seqr_of m h (net m w) p.seq) (unit_id u) i y in
            let there = seqr_there m h stopped k p rules r rid starting stand servers (net m w) t'.now d.base in
            let are = λ (o : Out) (g : Has t'.sends o). asks_are m h stopped k p rules r rid starting stand servers t'.now o (step_sends y' (unit_id u) i y (plain_none y plain) o g) in
            let light = asks_weigh m h stopped k p rules r rid starting stand servers p.seq t'.sends are in
            let long = asks_own m h stopped k p rules r rid starting stand servers t'.sends are in
            let less = mv.less in
            let same = ap (λ (z : SeqrState). togo p rules z) there in
            step_on late (net m w) _ _ q _ done 0 0 1 1 0 (2 * length t'.sends) price d (base_seqr m h stopped k p rules r rid starting stand servers (net m w) p.seq t'.now d.base) (subst (λ (z : SeqrState). Learnt p rules z) (sym there) mv.learnt) d.client
            (asks_ok m h stopped k p rules r rid starting stand servers p.seq t'.sends are) (fresh_flows y' q (map (packet_of m (seqr_id p.seq)) t'.sends) t' _ there mv.sort (λ z g. g) (λ v n z g. unit_seqr v p.seq (is_sent (seqr_id p.seq) t'.sends _ g)) (λ v n z g. older v n z (sent (Told' v n z) (inr g)))) (omega (arith, light)) (omega arith) (omega (arith, long)) (omega (arith, same, less)) (λ l. absurd (none_job j (sym (d.late_is l).0 ∙ has)))

        by : (o : Option CellJob) → (seqr_of m h (net m w) p.seq).scan ≡ o → Turned (Told' u i y) (seqr_step (seqr_of m h (net m w) p.seq) (unit_id u) i y)
        by None e = passes (λ j has. absurd (none_job j (sym e ∙ has)))
        by (Some j) e = of (awaits (cell_asks j) (unit_id u) i) refl
          where
            of : (b : Bool) → awaits (cell_asks j) (unit_id u) i ≡ b → Turned (Told' u i y) (seqr_step (seqr_of m h (net m w) p.seq) (unit_id u) i y)
            of true awaited = moves j e (awaited_moves p rules (seqr_of m h (net m w) p.seq) j u i y plain d.learnt e (knows.at j e) awaited (d.flows.good j u i y e (inl refl) awaited))
            of false far = passes (λ n has. subst (λ (z : CellJob). awaits (cell_asks z) (unit_id u) i ≡ false) (one_job j n (sym e ∙ has)) far)

    -- the client's request
    stand_is : (y : SeqrState) (b : Bool) → too_far y.next ≡ false → Stand m h stopped k p rules r rid starting stand servers (stand_answer y [] b)
    stand_is y true near = tt
    stand_is y false near = (refl, near)

    learns_again : Knows w (seqr (net m w)) → ((seqr (net m w)).scan ≡ None → scanning (seqr (net m w)) ≡ false) → During late (net m w) (Ask ∷ q) done
        → During late (net_after m h (net m w) Ask role.Seqr) (q ++ sent_then m h (net m w) Ask role.Seqr) (Ask ∷ done)
    learns_again knows rests d = subst (λ (t : SeqrTurn). Turned Ask t) (sym (told_again p rules (seqr_of m h (net m w) p.seq) (client_id k) rid d.learnt)) said
      where
        said : During late (record { units = w.units; layouts = w.layouts; seqrs = slice_set w.seqrs p.seq (seqr_of m h (net m w) p.seq); clients = w.clients }) (q ++ Stand' (stand_answer (seqr_of m h (net m w) p.seq) [] (scanning (seqr_of m h (net m w) p.seq))) ∷ []) (Ask ∷ done)
        said =
            let x = seqr_of m h (net m w) p.seq in
            let a = stand_answer x [] (scanning x) in
            let there = seqr_there m h stopped k p rules r rid starting stand servers (net m w) x d.base in
            let weighs = one_weighs m h stopped k p rules r rid starting stand servers (Stand' a) 1 1 0 0 (to_costs m h stopped k p rules r rid starting stand servers (seqr_id p.seq) rid a (it.seqr_far m h stopped k p rules r rid starting stand servers p.seq)) in
            let w0 = weighs.0 in
            let w1 = weighs.1 in
            let same = ap (λ (z : SeqrState). togo p rules z) there in
            step_on late (net m w) _ _ q (Stand' a ∷ []) done 2 1 0 0 1 0 (from_costs m h stopped k p rules r rid starting stand servers (out (seqr_id p.seq) rid (msg.Learn p))) d
            (base_seqr m h stopped k p rules r rid starting stand servers (net m w) p.seq x d.base) (subst (λ (z : SeqrState). Learnt p rules z) (sym there) d.learnt) d.client (Tells a (stand_is x (scanning x) knows.near), tt)
            (flows_same x _ (q ++ Stand' a ∷ []) there (flows_on x _ q (Stand' a ∷ []) (λ u i z e. seqr_client p.seq k (from_of _ _ e)) (λ u i z e. unit_client u k (from_of _ _ e)) (λ u i z g. told_not u i z a g) d.flows)) (omega (arith, w0)) (omega arith) (omega (arith, w1)) (omega (arith, same))
            (λ l. let g = d.late_is l in (ap (λ (z : SeqrState). z.scan) there ∙ g.0, late_to g.0 g.1))
          where
            told_not : (u i : ℕ) (z a : Msg) → Has (Stand' a ∷ []) (Told' u i z) → ⊥
            told_not u i z a (inl e) = unit_seqr u p.seq (from_of _ _ e)
            told_not u i z a (inr g) = g

            tail_there : scanning (seqr_of m h (net m w) p.seq) ≡ false → Flight (q ++ Stand' (stand_answer (seqr_of m h (net m w) p.seq) [] (scanning (seqr_of m h (net m w) p.seq))) ∷ [])
            tail_there e = inr ((seqr_of m h (net m w) p.seq).next, knows.near, has_right q _ _ (inl (ap (λ (b : Bool). Stand' (stand_answer (seqr_of m h (net m w) p.seq) [] b)) (sym e))))

            late_to : (seqr_of m h (net m w) p.seq).scan ≡ None → ((own (net m w)).work ≡ None) ⊎ Flight (Ask ∷ q) → ((own (net m w)).work ≡ None) ⊎ Flight (q ++ Stand' (stand_answer (seqr_of m h (net m w) p.seq) [] (scanning (seqr_of m h (net m w) p.seq))) ∷ [])
            late_to none (inl e) = inl e
            late_to none (inr f) = inr (tail_there (rests none))

    -- The client's turn.

    asks_again : (c : Client m) (v : Work m) (next : ℕ) → task_asks m p (Reconfiguring r) ≡ ask ∷ [] → c.work ≡ Some v → v.hand ≡ Doing (Reconfiguring r) → c.stand ≡ p → rid < next → drawn_from next (client_asks m c) ≡ []
    unfolding client_asks
    asks_again c v next is waits hand at less = ap (λ os. drawn_from next os) (ap (λ o. steps.work_asks m c.stand o) waits ∙ (ap (λ y. hand_asks m c.stand y) hand ∙ (ap (λ q'. task_asks m q' (Reconfiguring r)) at ∙ is))) ∙ none_drawn (ask ∷ []) next (less, tt)

    scanning_plain : is_latest IsScanning ≡ false
    unfolding is_latest
    scanning_plain = refl

    scanning_reply : (a b : ℕ) → reply (msg.Scanning a b) ≡ IsScanning
    unfolding reply
    scanning_reply a b = refl

    -- it goes on waiting
    pub record Stays (t : ClientTurn m) : Type 0 where
      pub waits : Waits t.now
      pub sends : t.sends ≡ []

    waits_on : (c : Client m) (v : Work m) (n i : ℕ) (x : ReconfWork) → x ≡ Starting rid → Waits c → Stays (given m c (on_reconf m c v (reconf_feed r x n i IsScanning c.next)))
    unfolding reconf_feed
    waits_on c v n i x e f = subst (λ (y : ReconfWork). Stays (given m c (on_reconf m c v (reconf_feed r y n i IsScanning c.next)))) (sym e) (record {
      waits = record {
        shape = record { stand = stand; work = record v { hand = Doing (Reconfiguring r) }; waits = refl; hand = refl; awaited = f.shape.awaited; again = f.shape.again; asks = f.shape.asks; below = f.shape.below; away = f.shape.away };
        layouts = f.layouts;
      };
      sends = asks_again (record c { stand = r.stand; work = Some (record v { hand = Doing (Reconfiguring r) }) }) (record v { hand = Doing (Reconfiguring r) }) c.next f.shape.asks refl refl stand f.shape.below.0;
    })

    told_scanning : (c : Client m) (a b : ℕ) → Waits c → Stays (client_deliver m c (seqr_id p.seq) rid (msg.Scanning a b))
    unfolding client_deliver task_feed
    told_scanning c a b f = subst (λ x. Stays (given m c x)) (sym (ap (λ z. feed m c c.work (seqr_id p.seq) rid z) (scanning_reply a b) ∙ task_fed m h stopped k p 0 c (Reconfiguring r) (ask ∷ []) (seqr_id p.seq) rid IsScanning f.shape (awaited_itself m h stopped k p 0 ask) scanning_plain))
        (waits_on c f.shape.work p.seq rid r.work starting f)

    told_tail : (c : Client m) (t : ℕ) → too_far t ≡ false → Waits c → IsOver m h stopped k p (client_deliver m c (seqr_id p.seq) rid (msg.Tail t []))
    unfolding client_deliver task_feed
    told_tail c t near f = subst (λ x. IsOver m h stopped k p (given m c x)) (sym (ap (λ z. feed m c c.work (seqr_id p.seq) rid z) (tail_near m h stopped k p r rid starting stand t near) ∙ task_fed m h stopped k p 0 c (Reconfiguring r) (ask ∷ []) (seqr_id p.seq) rid _ f.shape (awaited_itself m h stopped k p 0 ask) (plain_tail m h stopped k p r rid starting stand t)))
        (tail_ends m h stopped k p r rid starting stand c f.shape.work p.seq rid t r.work starting)

    abbrev ClientTo : Packet → ClientTurn m → Type 0
    ClientTo x t = During late (record { units = w.units; layouts = w.layouts; seqrs = w.seqrs; clients = slice_set w.clients k t.now }) (q ++ map (packet_of m (client_id k)) t.sends) (x ∷ done)

    own_turn : (x : Packet) (t : ClientTurn m) → Price x 1 1 0 0 → During late (net m w) (x ∷ q) done → x.to ≡ client_id k → ClientAt t.now → t.sends ≡ [] → (((own (net m w)).work ≡ None) ⊎ Flight (x ∷ q) → (t.now.work ≡ None) ⊎ Flight (q ++ [])) → ClientTo x t
    own_turn x t price d to at sends flight = subst (λ (os : List Out). During late (record { units = w.units; layouts = w.layouts; seqrs = w.seqrs; clients = slice_set w.clients k t.now }) (q ++ map (packet_of m (client_id k)) os) (x ∷ done)) (sym sends) (
        let there = own_there m h stopped k p rules r rid starting stand servers (net m w) t.now d.base in
        let none = none_weigh m h stopped k p rules r rid starting stand servers in
        let e0 = none.0 in
        let e1 = none.1 in
        step_on late (net m w) (record { units = w.units; layouts = w.layouts; seqrs = w.seqrs; clients = slice_set w.clients k t.now }) x q [] done 1 1 0 0 0 0 price d (base_client m h stopped k p rules r rid starting stand servers (net m w) t.now d.base) d.learnt (subst (λ (c : Client m). ClientAt c) (sym there) at) tt
        (flows_on (seqr (net m w)) x q [] (λ u i z g. unit_client u k (to_of _ _ g ∙ to)) (λ u i z g. seqr_client p.seq k (to_of _ _ g ∙ to)) (λ u i z g. g) d.flows) (omega (arith, e0)) (omega arith) (omega (arith, e1)) (omega arith)
        (λ l. let g = d.late_is l in (g.0, subst (λ (c : Client m). (c.work ≡ None) ⊎ Flight (q ++ [])) (sym there) (flight g.1))))

    never_idle : (c : Client m) → Waits c → c.work ≡ None → ⊥
    never_idle c f none = some_none (sym f.shape.waits ∙ none)
      where
        some_none : {v : Work m} → Some v ≡ None → ⊥
        some_none e = cc

    called_waits : (c : Client m) → Waits c → Waits (called m c)
    called_waits c f = record { shape = shape_called m h stopped k p 0 c (Reconfiguring r) (ask ∷ []) f.shape; layouts = f.layouts }

    -- a layout server's answer
    latest_told : (n i : ℕ) (l : Layout) → l.epoch ≤ p.epoch → During late (net m w) (newest_packet m h stopped k p rules r rid starting stand servers n i l ∷ q) done
        → ClientTo (newest_packet m h stopped k p rules r rid starting stand servers n i l) (client_deliver m (own (net m w)) (layout_id n) i (msg.Latest l))
    latest_told n i l le d = by d.client
      where
        price : Price (record { from = layout_id n; to = client_id k; rid = i; msg = msg.Latest l }) 1 1 0 0
        price = to_costs m h stopped k p rules r rid starting stand servers (layout_id n) i (msg.Latest l) (it.layout_far m h stopped k p rules r rid starting stand servers n)

        on : Flight (record { from = layout_id n; to = client_id k; rid = i; msg = msg.Latest l } ∷ q) → Flight (q ++ [])
        on = flight_on _ q [] (λ e. seqr_client p.seq k (to_of _ _ e)) (λ t e. seqr_layout p.seq n (from_of _ _ e))

        kept : ((own (net m w)).work ≡ None) ⊎ Flight (record { from = layout_id n; to = client_id k; rid = i; msg = msg.Latest l } ∷ q) → ((called m (own (net m w))).work ≡ None) ⊎ Flight (q ++ [])
        kept (inl e) = inl e
        kept (inr f) = inr (on f)

        by : ClientAt (own (net m w)) → ClientTo (record { from = layout_id n; to = client_id k; rid = i; msg = msg.Latest l }) (client_deliver m (own (net m w)) (layout_id n) i (msg.Latest l))
        by (inl f) = subst (λ (t : ClientTurn m). ClientTo (record { from = layout_id n; to = client_id k; rid = i; msg = msg.Latest l }) t) (sym ((busied m h stopped k p 0 (own (net m w)) (Reconfiguring r) (ask ∷ []) f.shape).calm n i l le)) (own_turn _ (record { now = called m (own (net m w)); sends = []; notes = [] }) price d refl (inl (called_waits (own (net m w)) f)) refl kept)
        by (inr e) = subst (λ (t : ClientTurn m). ClientTo (record { from = layout_id n; to = client_id k; rid = i; msg = msg.Latest l }) t) (sym (idle_deliver m (own (net m w)) (layout_id n) i (msg.Latest l) e)) (own_turn _ (record { now = called m (own (net m w)); sends = []; notes = [] }) price d refl (inr e) refl kept)

    -- the sequencer's
    stand_price : (y : Msg) → Price (Stand' y) 1 1 0 0
    stand_price y = to_costs m h stopped k p rules r rid starting stand servers (seqr_id p.seq) rid y (it.seqr_far m h stopped k p rules r rid starting stand servers p.seq)

    idle_told : (y : Msg) → (own (net m w)).work ≡ None → During late (net m w) (Stand' y ∷ q) done → ClientTo (Stand' y) (client_deliver m (own (net m w)) (seqr_id p.seq) rid y)
    idle_told y e d = subst (λ (t : ClientTurn m). ClientTo (Stand' y) t) (sym (idle_deliver m (own (net m w)) (seqr_id p.seq) rid y e)) (own_turn (Stand' y) (record { now = called m (own (net m w)); sends = []; notes = [] }) (stand_price y) d refl (inr e) refl (λ f. inl e))

    stand_told : (y : Msg) → Stand m h stopped k p rules r rid starting stand servers y → During late (net m w) (Stand' y ∷ q) done → ClientTo (Stand' y) (client_deliver m (own (net m w)) (seqr_id p.seq) rid y)
    stand_told (msg.Scanning a b) f d = by d.client
      where
        differ : (t : ℕ) → msg.Tail t [] ≡ msg.Scanning a b → ⊥
        differ t e = cc

        kept : (c : Client m) → Waits (own (net m w)) → ((own (net m w)).work ≡ None) ⊎ Flight (Stand' (msg.Scanning a b) ∷ q) → (c.work ≡ None) ⊎ Flight (q ++ [])
        kept c f (inl e) = absurd (never_idle (own (net m w)) f e)
        kept c f (inr g) = inr (flight_on _ q [] (λ e. seqr_client p.seq k (to_of _ _ e)) (λ t e. differ t (ap (λ (z : Packet). z.msg) e)) g)

        by : ClientAt (own (net m w)) → ClientTo (Stand' (msg.Scanning a b)) (client_deliver m (own (net m w)) (seqr_id p.seq) rid (msg.Scanning a b))
        by (inl f) = let x = told_scanning (own (net m w)) a b f in own_turn (Stand' (msg.Scanning a b)) (client_deliver m (own (net m w)) (seqr_id p.seq) rid (msg.Scanning a b)) (stand_price (msg.Scanning a b)) d refl (inl x.waits) x.sends (kept (client_deliver m (own (net m w)) (seqr_id p.seq) rid (msg.Scanning a b)).now f)
        by (inr e) = idle_told (msg.Scanning a b) e d
    stand_told (msg.Tail t ls) f d = subst (λ (os : List Rattle.tg_base.specs.declared.marks.StreamLink.StreamLink). During late (net m w) (Stand' (msg.Tail t os) ∷ q) done → ClientTo (Stand' (msg.Tail t os)) (client_deliver m (own (net m w)) (seqr_id p.seq) rid (msg.Tail t os))) (sym f.0) (λ z. by z z.client) d
      where
        by : During late (net m w) (Stand' (msg.Tail t []) ∷ q) done → ClientAt (own (net m w)) → ClientTo (Stand' (msg.Tail t [])) (client_deliver m (own (net m w)) (seqr_id p.seq) rid (msg.Tail t []))
        by d (inl g) = let x = told_tail (own (net m w)) t f.1 g in own_turn (Stand' (msg.Tail t [])) (client_deliver m (own (net m w)) (seqr_id p.seq) rid (msg.Tail t [])) (stand_price (msg.Tail t [])) d refl (inr x.none) x.sends (λ i. inl x.none)
        by d (inr e) = idle_told (msg.Tail t []) e d
    stand_told y f d = absurd f

  -- All packets.
  pub during_any : (late : Bool) (w : World m) (x : Packet) (q done : List Packet) → Fine x → (b : Bool) → on_in m stopped (net m w) x.to ≡ b → Knows w (seqr (net m w)) → Older w (seqr (net m w)) → ((seqr (net m w)).scan ≡ None → scanning (seqr (net m w)) ≡ false)
      → ((z : Packet) → Has (x ∷ q) z → Has w.packets z) → During late (net m w) (x ∷ q) done → During late (net_if m b h (net m w) x) (q ++ sent_if m b h (net m w) x) (x ∷ done)
  during_any late w _ q done (Scans x u i y f) b is knows older rests sent d = by (eqb p.seq x) refl
    where
      by : (c : Bool) → eqb p.seq x ≡ c → During late (net_if m b h (net m w) (record { from = seqr_id x; to = unit_id u; rid = i; msg = y })) (q ++ sent_if m b h (net m w) (record { from = seqr_id x; to = unit_id u; rid = i; msg = y })) (record { from = seqr_id x; to = unit_id u; rid = i; msg = y } ∷ done)
      by false off = others_scan late w q done x u i y off f b d
      by true e = subst (λ (n : ℕ). Has w.packets (record { from = seqr_id n; to = unit_id u; rid = i; msg = y }) → During late (net m w) (record { from = seqr_id n; to = unit_id u; rid = i; msg = y } ∷ q) done → During late (net_if m b h (net m w) (record { from = seqr_id n; to = unit_id u; rid = i; msg = y })) (q ++ sent_if m b h (net m w) (record { from = seqr_id n; to = unit_id u; rid = i; msg = y })) (record { from = seqr_id n; to = unit_id u; rid = i; msg = y } ∷ done))
          (num_same p.seq x e) (λ s z. own_scan late w q done u i y f knows s b is z) (sent _ (inl refl)) d
  during_any late w _ q done (Scanned x u i y f) b is knows older rests sent d = by (eqb p.seq x) refl
    where
      of : (b : Bool) → on_in m stopped (net m w) (seqr_id p.seq) ≡ b → ((z : Packet) → Has (Told' u i y ∷ q) z → Has w.packets z) → During late (net m w) (Told' u i y ∷ q) done → During late (net_if m b h (net m w) (Told' u i y)) (q ++ sent_if m b h (net m w) (Told' u i y)) (Told' u i y ∷ done)
      of true is s z = own_answer late w q done u i y f knows older s z
      of false is s z = absurd (contrary z.base.seqr_on is)

      by : (c : Bool) → eqb p.seq x ≡ c → During late (net_if m b h (net m w) (record { from = unit_id u; to = seqr_id x; rid = i; msg = y })) (q ++ sent_if m b h (net m w) (record { from = unit_id u; to = seqr_id x; rid = i; msg = y })) (record { from = unit_id u; to = seqr_id x; rid = i; msg = y } ∷ done)
      by false off = others_told late w q done x u i y off f b d
      by true e = subst (λ (n : ℕ). on_in m stopped (net m w) (seqr_id n) ≡ b → ((z : Packet) → Has (record { from = unit_id u; to = seqr_id n; rid = i; msg = y } ∷ q) z → Has w.packets z) → During late (net m w) (record { from = unit_id u; to = seqr_id n; rid = i; msg = y } ∷ q) done
          → During late (net_if m b h (net m w) (record { from = unit_id u; to = seqr_id n; rid = i; msg = y })) (q ++ sent_if m b h (net m w) (record { from = unit_id u; to = seqr_id n; rid = i; msg = y })) (record { from = unit_id u; to = seqr_id n; rid = i; msg = y } ∷ done)) (num_same p.seq x e) (of b) is sent d
  during_any late w _ q done (AsksLatest n i) b is knows older rests sent d = latest_asked late w q done n i b d
  during_any late w _ q done (TellsLatest n i l le) true is knows older rests sent d = latest_told late w q done n i l le d
  during_any late w _ q done (TellsLatest n i l le) false is knows older rests sent d = absurd (contrary d.base.on is)
  during_any late w _ q done Learns true is knows older rests sent d = learns_again late w q done knows rests d
  during_any late w _ q done Learns false is knows older rests sent d = absurd (contrary d.base.seqr_on is)
  during_any late w _ q done (Tells y f) true is knows older rests sent d = stand_told late w q done y f d
  during_any late w _ q done (Tells y f) false is knows older rests sent d = absurd (contrary d.base.on is)

  -- Before it has learnt its layout.

  head_is : (x y : Packet) (xs ys : List Packet) → x ∷ xs ≡ y ∷ ys → x ≡ y
  head_is x y xs ys e = cc

  tail_is : (x y : Packet) (xs ys : List Packet) → x ∷ xs ≡ y ∷ ys → xs ≡ ys
  tail_is x y xs ys e = cc

  aside : (s t : Net m) (x : Packet) (q sent done : List Packet) (a b c e u v : ℕ) (front back : List Packet) → Price x a b c e → Before s (x ∷ q) done → Apart s t sent u v → u + b ≤ a → v + e ≤ c → q ≡ front ++ Ask ∷ back → Each NotTo front → Before t (q ++ sent) (x ∷ done)
  aside s t x q sent done a b c e u v front back price d f pays less is first =
      let w = ends_both x q in
      let w0 = w.0 in
      let w1 = w.1 in
      let o = spends x done in
      let o0 = o.0 in
      let o1 = o.1 in
      let f0 = price.weighs in
      let f1 = price.costs in
      let f2 = price.scan_weighs in
      let f3 = price.scan_costs in
      let g0 = d.few in
      let g1 = d.scans in
      let l0 = f.few in
      let l1 = f.scans in
      let both = weigh_both m h stopped k p q sent in
      let sums = sum_both (scan_weight m h stopped k p rules r rid starting stand servers) q sent in
      record {
        base = f.base;
        num = ap (λ (y : SeqrState). y.num) f.seqr ∙ d.num;
        old = subst (λ (y : SeqrState). y.epoch < p.epoch) (sym f.seqr) d.old;
        client = subst (λ (z : Client m). Waits z) (sym f.client) d.client;
        front = front;
        back = back ++ sent;
        is = ap (λ (l : List Packet). l ++ sent) is ∙ same_append front Ask back sent;
        each = each_both Fine q sent d.each.1 f.each;
        first = first;
        few = omega (arith, w0, o0, f0, f1, g0, both, l0, pays);
        scans = omega (arith, w1, o1, f2, f3, g1, sums, l1, less);
      }

  module _ (w : World m) (q done : List Packet) where
    abbrev Next : Bool → Packet → Type 0
    Next b x = Before (net_if m b h (net m w) x) (q ++ sent_if m b h (net m w) x) (x ∷ done) ⊎ During false (net_if m b h (net m w) x) (q ++ sent_if m b h (net m w) x) (x ∷ done)

    others_first : (x u i : ℕ) (y : Msg) (front back : List Packet) → Scan (unit_ask y) → Before (net m w) (scan_packet m h stopped k p rules r rid starting stand servers x u i y ∷ q) done → q ≡ front ++ Ask ∷ back → Each NotTo front → (b : Bool) → Next b (scan_packet m h stopped k p rules r rid starting stand servers x u i y)
    others_first x u i y front back scan d is first b = inl (by b (eqb p.seq x) refl)
      where
        by : (b c : Bool) → eqb p.seq x ≡ c → Before (net_if m b h (net m w) (record { from = seqr_id x; to = unit_id u; rid = i; msg = y })) (q ++ sent_if m b h (net m w) (record { from = seqr_id x; to = unit_id u; rid = i; msg = y })) (record { from = seqr_id x; to = unit_id u; rid = i; msg = y } ∷ done)
        by true true e = aside (net m w) _ _ q _ done 0 0 2 1 0 1 front back (scan_own m h stopped k p rules r rid starting stand servers x u i y e) d (unit_side m h stopped k p rules r rid starting stand servers (net m w) x u i y 1 scan (λ a. told_own m h stopped k p rules r rid starting stand servers x u i a e) d.base) (omega arith) (omega arith) is first
        by true false e = aside (net m w) _ _ q _ done 0 0 0 0 0 0 front back (scan_off m h stopped k p rules r rid starting stand servers x u i y e) d (unit_side m h stopped k p rules r rid starting stand servers (net m w) x u i y 0 scan (λ a. told_off m h stopped k p rules r rid starting stand servers x u i a e) d.base) (omega arith) (omega arith) is first
        by false true e = aside (net m w) (net m w) _ q [] done 0 0 2 1 0 0 front back (scan_own m h stopped k p rules r rid starting stand servers x u i y e) d (nothing_side m h stopped k p rules r rid starting stand servers (net m w) d.base) (omega arith) (omega arith) is first
        by false false e = aside (net m w) (net m w) _ q [] done 0 0 0 0 0 0 front back (scan_off m h stopped k p rules r rid starting stand servers x u i y e) d (nothing_side m h stopped k p rules r rid starting stand servers (net m w) d.base) (omega arith) (omega arith) is first

    told_first : (x u i : ℕ) (y : Msg) (front back : List Packet) → eqb p.seq x ≡ false → is_plain y ≡ true → Before (net m w) (told_packet m h stopped k p rules r rid starting stand servers x u i y ∷ q) done → q ≡ front ++ Ask ∷ back → Each NotTo front → (b : Bool) → Next b (told_packet m h stopped k p rules r rid starting stand servers x u i y)
    told_first x u i y front back off plain d is first b = inl (by b)
      where
        by : (b : Bool) → Before (net_if m b h (net m w) (record { from = unit_id u; to = seqr_id x; rid = i; msg = y })) (q ++ sent_if m b h (net m w) (record { from = unit_id u; to = seqr_id x; rid = i; msg = y })) (record { from = unit_id u; to = seqr_id x; rid = i; msg = y } ∷ done)
        by true = aside (net m w) _ _ q _ done 0 0 0 0 0 0 front back (told_off m h stopped k p rules r rid starting stand servers x u i y off) d
            (other_seqr m h stopped k p rules r rid starting stand servers (net m w) x (seqr_step (seqr_of m h (net m w) x) (unit_id u) i y) off (λ o has. step_sends (seqr_of m h (net m w) x) (unit_id u) i y (plain_none y plain) o has) d.base) (omega arith) (omega arith) is first
        by false = aside (net m w) (net m w) _ q [] done 0 0 0 0 0 0 front back (told_off m h stopped k p rules r rid starting stand servers x u i y off) d (nothing_side m h stopped k p rules r rid starting stand servers (net m w) d.base) (omega arith) (omega arith) is first

    latest_first : (n i : ℕ) (front back : List Packet) → Before (net m w) (latest_packet m h stopped k p rules r rid starting stand servers n i ∷ q) done → q ≡ front ++ Ask ∷ back → Each NotTo front → (b : Bool) → Next b (latest_packet m h stopped k p rules r rid starting stand servers n i)
    latest_first n i front back d is first b = inl (by b)
      where
        price : Price (record { from = client_id k; to = layout_id n; rid = i; msg = msg.AskLatest }) 2 1 0 0
        price = from_costs m h stopped k p rules r rid starting stand servers (out (layout_id n) i msg.AskLatest)

        by : (b : Bool) → Before (net_if m b h (net m w) (record { from = client_id k; to = layout_id n; rid = i; msg = msg.AskLatest })) (q ++ sent_if m b h (net m w) (record { from = client_id k; to = layout_id n; rid = i; msg = msg.AskLatest })) (record { from = client_id k; to = layout_id n; rid = i; msg = msg.AskLatest } ∷ done)
        by true = aside (net m w) _ _ q _ done 2 1 0 0 1 0 front back price d (layout_side m h stopped k p rules r rid starting stand servers (net m w) n i d.base) (omega arith) (omega arith) is first
        by false = aside (net m w) (net m w) _ q [] done 2 1 0 0 0 0 front back price d (nothing_side m h stopped k p rules r rid starting stand servers (net m w) d.base) (omega arith) (omega arith) is first

    begun_near : (y : SeqrState) (b : Bool) → too_far (scan_on (fresh p rules y) b).next ≡ false
    begun_near y true = stands_zero
    begun_near y false = stands_zero

    -- it is told
    learns_first : Older w (seqr (net m w)) → ((z : Packet) → Has (Ask ∷ q) z → Has w.packets z) → Before (net m w) (Ask ∷ q) done → During false (net_after m h (net m w) Ask role.Seqr) (q ++ sent_then m h (net m w) Ask role.Seqr) (Ask ∷ done)
    learns_first older sent d = subst (λ (t : SeqrTurn). During false (record { units = w.units; layouts = w.layouts; seqrs = slice_set w.seqrs p.seq t.now; clients = w.clients }) (q ++ map (packet_of m (seqr_id p.seq)) t.sends) (Ask ∷ done)) (sym (first_told p rules (seqr_of m h (net m w) p.seq) (client_id k) rid d.num d.old)) (
        let y = seqr_of m h (net m w) p.seq in
        let now = begun y p in
        let a = stand_answer now [] (scanning now) in
        let os = drawn_from y.rids (seqr_asks now) in
        let ms = map (packet_of m (seqr_id p.seq)) os in
        let mv = first_moves p rules y d.num in
        let there = seqr_there m h stopped k p rules r rid starting stand servers (net m w) now d.base in
        let are = λ (o : Out) (g : Has os o). asks_are m h stopped k p rules r rid starting stand servers now o (has_filter _ (seqr_asks now) o g) in
        let light = asks_weigh m h stopped k p rules r rid starting stand servers p.seq os are in
        let long = asks_own m h stopped k p rules r rid starting stand servers os are in
        let less = mv.less in
        let same = ap (λ (z : SeqrState). togo p rules z) there in
        let price = from_costs m h stopped k p rules r rid starting stand servers (out (seqr_id p.seq) rid (msg.Learn p)) in
        let tells = to_costs m h stopped k p rules r rid starting stand servers (seqr_id p.seq) rid a (it.seqr_far m h stopped k p rules r rid starting stand servers p.seq) in
        let w' = ends_both Ask q in
        let w0 = w'.0 in
        let w1 = w'.1 in
        let v = more_weigh m h stopped k p rules r rid starting stand servers (Stand' a) ms in
        let v0 = v.0 in
        let v1 = v.1 in
        let o = spends Ask done in
        let o0 = o.0 in
        let o1 = o.1 in
        let f0 = price.weighs in
        let f1 = price.costs in
        let f2 = price.scan_weighs in
        let f3 = price.scan_costs in
        let t0 = tells.weighs in
        let t2 = tells.scan_weighs in
        let g0 = d.few in
        let g1 = d.scans in
        let both = weigh_both m h stopped k p q (Stand' a ∷ ms) in
        let sums = sum_both (scan_weight m h stopped k p rules r rid starting stand servers) q (Stand' a ∷ ms) in
        record {
          base = base_seqr m h stopped k p rules r rid starting stand servers (net m w) p.seq now d.base;
          learnt = subst (λ (z : SeqrState). Learnt p rules z) (sym there) mv.learnt;
          client = inl d.client;
          each = each_both Fine q (Stand' a ∷ ms) d.each.1 (Tells a (stand_is false w q done now (scanning now) (begun_near y (scanning (fresh p rules y)))), asks_ok m h stopped k p rules r rid starting stand servers p.seq os are);
          flows = fresh_flows y q (Stand' a ∷ ms) (record { now = now; sends = os }) _ there mv.sort (λ z g. inr g) (λ v n z g. told_not v n z a os g) (λ v n z g. older v n z (sent (Told' v n z) (inr g)));
          few = omega (arith, w0, v0, o0, f0, f1, t0, g0, both, light);
          scans = omega (arith, w1, v1, o1, f2, f3, t2, g1, sums, long, less, same);
          late_is = λ l. absurd (contrary l refl);
        })
      where
        told_not : (u i : ℕ) (z a : Msg) (os : List Out) → Has (Stand' a ∷ map (packet_of m (seqr_id p.seq)) os) (Told' u i z) → ⊥
        told_not u i z a os (inl e) = unit_seqr u p.seq (from_of _ _ e)
        told_not u i z a os (inr g) = unit_seqr u p.seq (is_sent (seqr_id p.seq) os _ g)

    front_first : (x : Packet) (front back : List Packet) → Fine x → NotTo x → Before (net m w) (x ∷ q) done → q ≡ front ++ Ask ∷ back → Each NotTo front → (b : Bool) → Next b x
    front_first _ front back (Scans x u i y f) not d is first b = others_first x u i y front back f d is first b
    front_first _ front back (Scanned x u i y f) not d is first b = by (eqb p.seq x) refl
      where
        by : (c : Bool) → eqb p.seq x ≡ c → Next b (record { from = unit_id u; to = seqr_id x; rid = i; msg = y })
        by false off = told_first x u i y front back off f d is first b
        by true e = absurd (not.0 (ap seqr_id (sym (num_same p.seq x e))))
    front_first _ front back (AsksLatest n i) not d is first b = latest_first n i front back d is first b
    front_first _ front back (TellsLatest n i l le) not d is first b = absurd (not.1 refl)
    front_first _ front back Learns not d is first b = absurd (not.0 refl)
    front_first _ front back (Tells y f) not d is first b = absurd (not.1 refl)

    pub before_any : (x : Packet) (front : List Packet) (d : Before (net m w) (x ∷ q) done) → d.front ≡ front → (b : Bool) → on_in m stopped (net m w) x.to ≡ b → Older w (seqr (net m w)) → ((z : Packet) → Has (x ∷ q) z → Has w.packets z) → Next b x
    before_any x [] d e b on older sent =
        let is = subst (λ (l : List Packet). x ∷ q ≡ l ++ Ask ∷ d.back) e d.is in
        subst (λ (z : Packet). on_in m stopped (net m w) z.to ≡ b → ((y : Packet) → Has (z ∷ q) y → Has w.packets y) → Before (net m w) (z ∷ q) done → Next b z) (sym (head_is x Ask q d.back is)) (by b) on sent d
      where
        by : (b : Bool) → on_in m stopped (net m w) (seqr_id p.seq) ≡ b → ((y : Packet) → Has (Ask ∷ q) y → Has w.packets y) → Before (net m w) (Ask ∷ q) done → Next b Ask
        by true on sent d = inr (learns_first older sent d)
        by false on sent d = absurd (contrary d.base.seqr_on on)
    before_any x (f ∷ fs) d e b on older sent =
        let is = subst (λ (l : List Packet). x ∷ q ≡ l ++ Ask ∷ d.back) e d.is in
        let first = subst (λ (l : List Packet). Each NotTo l) e d.first in
        front_first x fs d.back d.each.0 (subst NotTo (sym (head_is x f q (fs ++ Ask ∷ d.back) is)) first.0) d (tail_is x f q (fs ++ Ask ∷ d.back) is) first.1 b
