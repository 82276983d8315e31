-- How a sequencer's step moves the position that it scans or issues next.
use Rattle.std.proofs.Common.{◌≡◌, ℕ, ◌+◌, List, [], Bool, true, false, refl, ap, inl, arith, Some, None, Option}
use Rattle.std.specs.Prelude.{min, ◌==◌}
use Rattle.tg_base.specs.Layouts.{Layout}
use Rattle.tg_base.specs.declared.cell.Cell.{Cell}
use Rattle.tg_base.specs.declared.ids.NodeId.{NodeId}
use Rattle.tg_base.specs.declared.ids.Oid.{Oid}
use Rattle.tg_base.specs.declared.msg.Msg.{Msg}
use Rattle.tg_base.specs.declared.msg.Msg.TheVariants as msg
use Rattle.tg_base.specs.declared.packet.Out.{Out}
use Rattle.tg_protocol.specs.Requests.{out, awaits, Next, Goes, Learns, Ends}
use Rattle.tg_protocol.specs.Replies.{reply}
use Rattle.tg_protocol.specs.Cells.{CellJob, CellEnd, Done, Fenced, Gone, Lost, Seen, cell_asks, cell_feed}
use Rattle.tg_protocol.specs.Sequencers.{SeqrState, SeqrTurn, with_positions, cell_streams, links_of, scanning, scan_on, scan_ended, scan_next, scan_turn, fed_if, scan_fed, issue, on_token, unfenced, own_epoch, on_learn, learn_or_old, seqr_step}
use Rattle.tg_law_layouts.proofs.Moves.Members.{Has}

pub record Alike (s t : SeqrState) : Type 0 where
  pub epoch : t.epoch ≡ s.epoch
  pub proj : t.proj ≡ s.proj

-- It stays, begins at 0, reads a cell, jumps past a trim, or issues the position.
pub data Sweeps (s : SeqrState) (from : NodeId) (rid : ℕ) (y : Msg) (t : SeqrTurn) : Type 0 where
  Stays : Alike s t.now → t.now.next ≡ s.next → Sweeps s from rid y t
  Begins : t.now.next ≡ 0 → Sweeps s from rid y t
  Reads : (j : CellJob) → (c : Cell) → s.scan ≡ Some j → awaits (cell_asks j) from rid ≡ true → (cell_feed j from.num (reply y) s.rids).to ≡ Ends (Done c) → Alike s t.now → t.now.next ≡ s.next + 1 → Sweeps s from rid y t
  Jumps : (j : CellJob) → (b : ℕ) → s.scan ≡ Some j → awaits (cell_asks j) from rid ≡ true → (cell_feed j from.num (reply y) s.rids).to ≡ Ends (Gone b) → Alike s t.now → t.now.next ≡ min b s.proj.start → Sweeps s from rid y t
  Issues : (os : List Oid) → y ≡ msg.Token s.epoch os → scanning s ≡ false → Alike s t.now → t.now.next ≡ s.next + 1 → Has t.sends (out from rid (msg.Issued s.next (links_of s.lists os))) → Sweeps s from rid y t

on_alike : (u : SeqrState) (b : Bool) → Alike u (scan_on u b)
on_alike u true = record { epoch = refl; proj = refl }
on_alike u false = record { epoch = refl; proj = refl }

on_next : (u : SeqrState) (b : Bool) → (scan_on u b).next ≡ u.next
on_next u true = refl
on_next u false = refl

same_number : (a b : ℕ) → (a == b) ≡ true → a ≡ b
same_number a b e = grind arith

module _ (s : SeqrState) (from : NodeId) (rid : ℕ) (y : Msg) where
  abbrev Turned : SeqrTurn → Type 0
  Turned t = Sweeps s from rid y t

  unmoved : (os : List Out) → Turned (record { now = s; sends = os })
  unmoved os = Stays (record { epoch = refl; proj = refl }) refl

  -- The scan.

  abbrev read_to : ℕ → Cell → SeqrState
  read_to n c = record s { rids = n; next = s.next + 1; lists = with_positions s.next (cell_streams c) s.lists }

  abbrev jumped_to : ℕ → ℕ → SeqrState
  jumped_to n b = record s { rids = n; next = min b s.proj.start }

  ended : (j : CellJob) (e : CellEnd) (n : ℕ) (os : List Out) → s.scan ≡ Some j → awaits (cell_asks j) from rid ≡ true → (cell_feed j from.num (reply y) s.rids).to ≡ Ends e → Turned (record { now = scan_ended (record s { rids = n }) e; sends = os })
  ended j (Done c) n os has aw i = Reads j c has aw i (record { epoch = (on_alike (read_to n c) _).epoch; proj = (on_alike (read_to n c) _).proj }) (on_next (read_to n c) _)
  ended j (Gone b) n os has aw i = Jumps j b has aw i (record { epoch = (on_alike (jumped_to n b) _).epoch; proj = (on_alike (jumped_to n b) _).proj }) (on_next (jumped_to n b) _)
  ended j (Fenced u e) n os has aw i = Stays (record { epoch = refl; proj = refl }) refl
  ended j (Lost c) n os has aw i = Stays (record { epoch = refl; proj = refl }) refl
  ended j Seen n os has aw i = Stays (record { epoch = refl; proj = refl }) refl

  fed : (j : CellJob) (to : Next CellJob CellEnd) (n : ℕ) (os : List Out) → s.scan ≡ Some j → awaits (cell_asks j) from rid ≡ true → (cell_feed j from.num (reply y) s.rids).to ≡ to → Turned (record { now = scan_next (record s { rids = n }) to; sends = os })
  fed j (Goes i) n os has aw e = Stays (record { epoch = refl; proj = refl }) refl
  fed j (Learns i) n os has aw e = Stays (record { epoch = refl; proj = refl }) refl
  fed j (Ends x) n os has aw e = ended j x n os has aw e

  fed_by : (b : Bool) (j : CellJob) → s.scan ≡ Some j → awaits (cell_asks j) from rid ≡ b → Turned (fed_if b s (scan_turn s (cell_feed j from.num (reply y) s.rids)))
  fed_by true j has aw = fed j (cell_feed j from.num (reply y) s.rids).to (cell_feed j from.num (reply y) s.rids).next _ has aw refl
  fed_by false j has aw = unmoved []

  scanned : (o : Option CellJob) → s.scan ≡ o → Turned (scan_fed s o from rid y)
  scanned None has = unmoved []
  scanned (Some j) has = fed_by (awaits (cell_asks j) from rid) j has refl

  -- A layout.

  unfenced_by : (f : Option ℕ) (t : SeqrTurn) → Turned t → Turned (unfenced f s from rid t)
  unfenced_by None t k = k
  unfenced_by (Some e) t k = unmoved _

  learns_by : (q : Layout) (b : Bool) → Turned (on_learn s q from rid b)
  learns_by q true = Begins (on_next (record s { epoch = q.epoch; proj = q; next = 0; lists = []; fence = None; scan = None }) _)
  learns_by q false = unfenced_by s.fence _ (unmoved _)

  learn_or : (q : Layout) (b : Bool) → Turned (learn_or_old s q from rid b)
  learn_or q true = unmoved _
  learn_or q false = learns_by q _

  -- A request of an epoch.

  own_by : (b : Bool) (t : SeqrTurn) → (b ≡ true → Turned t) → Turned (own_epoch b s from rid t)
  own_by true t k = unfenced_by s.fence t (k refl)
  own_by false t k = unmoved _

  issues : (os : List Oid) (b : Bool) → y ≡ msg.Token s.epoch os → scanning s ≡ false → Turned (issue s os from rid b)
  issues os true is ready = unmoved _
  issues os false is ready = Issues os is ready (record { epoch = refl; proj = refl }) refl (inl refl)

  tokens : (os : List Oid) (b : Bool) → y ≡ msg.Token s.epoch os → scanning s ≡ b → Turned (on_token s os from rid b)
  tokens os true is ready = unmoved _
  tokens os false is ready = issues os _ is ready

pub sweeps : (s : SeqrState) (from : NodeId) (rid : ℕ) (y : Msg) → Sweeps s from rid y (seqr_step s from rid y)
unfolding seqr_step
sweeps s from rid (msg.Learn q) = learn_or s from rid (msg.Learn q) q _
sweeps s from rid (msg.Token e os) = own_by s from rid (msg.Token e os) _ _ (λ b. tokens s from rid (msg.Token e os) os _ (ap (λ n. msg.Token n os) (same_number e s.epoch b)) refl)
sweeps s from rid (msg.Check e os) = own_by s from rid (msg.Check e os) _ _ (λ b. unmoved s from rid (msg.Check e os) _)
sweeps s from rid y = scanned s from rid y s.scan refl
