-- A sequencer: it hands out positions, and after a reconfiguration it scans the log first.
use Rattle.std.specs.Prelude.{ℕ, ◌+◌, Bool, true, false, not, ◌||◌, ◌==◌, nat_lt, nat_le, min, List, [], ◌∷◌, take, map, Option, Some, None}
use Rattle.tg_base.specs.Layouts.{Layout}
use Rattle.tg_base.specs.declared.cell.Cell.{Cell}
use Rattle.tg_base.specs.declared.cell.Cell.TheVariants.{Junk, Data}
use Rattle.tg_base.specs.declared.ids.NodeId.{NodeId}
use Rattle.tg_base.specs.declared.ids.Oid.{Oid}
use Rattle.tg_base.specs.declared.marks.StreamLink.{StreamLink}
use Rattle.tg_base.specs.declared.msg.Msg.{Msg}
use Rattle.tg_base.specs.declared.msg.Msg.TheVariants as msg
use Rattle.tg_base.specs.declared.packet.Out.{Out}
use Rattle.tg_entry.specs.declared.entry.Entry.{Entry}
use Rattle.tg_base.specs.Orders.{oid_eq}
use Rattle.tg_protocol.specs.Entries.{streams_of, link_of, unlinked}
use Rattle.tg_protocol.specs.Pages.{entry_of}
use Rattle.tg_protocol.specs.Requests.{out, awaits, drawn_from, Next, Goes, Learns, Ends, Turn}
use Rattle.tg_protocol.specs.Replies.{reply}
use Rattle.tg_protocol.specs.Cells.{CellJob, CellEnd, Done, Fenced, Gone, place_in, get_cell, cell_asks, cell_feed}

pub record SeqrState : Type 0 where
  pub num : ℕ
  pub limit : ℕ  -- positions below it may be issued
  pub rids : ℕ  -- the next request number of its scan
  pub epoch : ℕ  -- 0 where it has learnt nothing
  pub proj : Layout
  pub next : ℕ  -- the next position to issue, or to scan
  pub lists : List StreamLink  -- of each stream the last four positions, newest first
  pub fence : Option ℕ  -- the later epoch by which its scan was fenced
  pub scan : Option CellJob  -- the cell that its scan settles

-- the first layout's sequencer has learnt it
abbrev pub first_epoch : Bool → ℕ
first_epoch true = 1
first_epoch false = 0

unfoldable pub new_seqr : ℕ → ℕ → Layout → SeqrState
new_seqr num limit first = record {
  num = num;
  limit = limit;
  rids = 1;
  epoch = first_epoch (num == first.seq);
  proj = first;
  next = 0;
  lists = [];
  fence = None;
  scan = None;
}

-- Lists.

abbrev pub link_or_new : Oid → Option StreamLink → StreamLink
link_or_new o None = unlinked o
link_or_new o (Some l) = l

-- the links of these objects, in their order
abbrev pub links_of : List StreamLink → List Oid → List StreamLink
links_of ls os = map (λ o. link_or_new o (link_of o ls)) os

-- a position is put first in a stream's list, and four are kept
abbrev pub pushed : ℕ → StreamLink → StreamLink
pushed p l = record { oid = l.oid; backs = take 4 (p ∷ l.backs) }

abbrev pub choose : {X : Type 0} → Bool → X → X → X
choose true x y = x
choose false x y = y

abbrev pub with_position : ℕ → Oid → List StreamLink → List StreamLink
with_position p o [] = pushed p (unlinked o) ∷ []
with_position p o (l ∷ ls) = choose (oid_eq l.oid o) (pushed p l ∷ ls) (l ∷ with_position p o ls)

abbrev pub with_positions : ℕ → List Oid → List StreamLink → List StreamLink
with_positions p [] ls = ls
with_positions p (o ∷ os) ls = with_positions p os (with_position p o ls)

abbrev pub entry_streams : Option Entry → List Oid
entry_streams None = []
entry_streams (Some e) = streams_of e

-- the streams in which a cell stands: a page that is no entry stands in none
abbrev pub cell_streams : Cell → List Oid
cell_streams Junk = []
cell_streams (Data d) = entry_streams (entry_of d)

-- What a sequencer does.

pub record SeqrTurn : Type 0 where
  pub now : SeqrState
  pub sends : List Out

-- the request of the scan that is outstanding
abbrev pub scan_asks : Option CellJob → List Out
scan_asks None = []
scan_asks (Some j) = cell_asks j

abbrev pub seqr_asks : SeqrState → List Out
seqr_asks s = scan_asks s.scan

abbrev pub scanning : SeqrState → Bool
scanning s = nat_lt s.next s.proj.start

abbrev pub job_of : Next CellJob CellEnd → Option CellJob
job_of (Goes j) = Some j
job_of _ = None

-- the scan goes on with the cell at `next`, or is over
abbrev pub with_scan : SeqrState → Turn CellJob CellEnd → SeqrState
with_scan s t = record s { rids = t.next; scan = job_of t.to }

abbrev pub scan_on : SeqrState → Bool → SeqrState
scan_on s true = with_scan s (get_cell (place_in s.proj s.next) s.rids)
scan_on s false = record s { scan = None }

abbrev pub scans_on : SeqrState → SeqrState
scans_on s = scan_on s (scanning s)

abbrev pub scanned : SeqrState → Cell → SeqrState
scanned s c = scans_on (record s { next = s.next + 1; lists = with_positions s.next (cell_streams c) s.lists })

abbrev pub scan_ended : SeqrState → CellEnd → SeqrState
scan_ended s (Done c) = scanned s c
scan_ended s (Gone b) = scans_on (record s { next = min b s.proj.start })
scan_ended s (Fenced u e) = record s { fence = Some e; scan = None }
scan_ended s _ = s

abbrev pub scan_next : SeqrState → Next CellJob CellEnd → SeqrState
scan_next s (Goes j) = record s { scan = Some j }
scan_next s (Learns j) = record s { scan = Some j }
scan_next s (Ends e) = scan_ended s e

abbrev pub scan_turn : SeqrState → Turn CellJob CellEnd → SeqrState
scan_turn s t = scan_next (record s { rids = t.next }) t.to

-- its new requests, which are those drawn in this step
abbrev pub sends_new : SeqrState → SeqrState → SeqrTurn
sends_new old s = record { now = s; sends = drawn_from old.rids (seqr_asks s) }

-- an answer that isn't awaited changes nothing
abbrev pub fed_if : Bool → SeqrState → SeqrState → SeqrTurn
fed_if true old s = sends_new old s
fed_if false old s = record { now = old; sends = [] }

abbrev pub scan_fed : SeqrState → Option CellJob → NodeId → ℕ → Msg → SeqrTurn
scan_fed s None from rid m = record { now = s; sends = [] }
scan_fed s (Some j) from rid m = fed_if (awaits (cell_asks j) from rid) s (scan_turn s (cell_feed j from.num (reply m) s.rids))

abbrev pub answers : SeqrState → NodeId → ℕ → Msg → SeqrTurn
answers s from rid m = record { now = s; sends = out from rid m ∷ [] }

-- a newer layout that names this sequencer: it scans from 0 up to the start
abbrev pub begun : SeqrState → Layout → SeqrState
begun s q = scans_on (record s { epoch = q.epoch; proj = q; next = 0; lists = []; fence = None; scan = None })

abbrev pub stand_answer : SeqrState → List StreamLink → Bool → Msg
stand_answer s ls true = msg.Scanning s.next s.proj.start
stand_answer s ls false = msg.Tail s.next ls

-- the answer goes out before the scan's first request
abbrev pub learns : SeqrState → SeqrState → NodeId → ℕ → SeqrTurn
learns old s from rid = record { now = s; sends = out from rid (stand_answer s [] (scanning s)) ∷ drawn_from old.rids (seqr_asks s) }

abbrev pub issued : SeqrState → List Oid → SeqrState
issued s os = record s { next = s.next + 1; lists = with_positions s.next os s.lists }

abbrev pub issue : SeqrState → List Oid → NodeId → ℕ → Bool → SeqrTurn
issue s os from rid true = answers s from rid (msg.Full s.limit)
issue s os from rid false = record { now = issued s os; sends = out from rid (msg.Issued s.next (links_of s.lists os)) ∷ [] }

abbrev pub on_token : SeqrState → List Oid → NodeId → ℕ → Bool → SeqrTurn
on_token s os from rid true = answers s from rid (msg.Scanning s.next s.proj.start)
on_token s os from rid false = issue s os from rid (nat_le s.limit s.next)

-- of its own epoch, where it isn't fenced
abbrev pub unfenced : Option ℕ → SeqrState → NodeId → ℕ → SeqrTurn → SeqrTurn
unfenced None s from rid t = t
unfenced (Some e) s from rid t = answers s from rid (msg.OldEpoch e)

abbrev pub own_epoch : Bool → SeqrState → NodeId → ℕ → SeqrTurn → SeqrTurn
own_epoch true s from rid t = unfenced s.fence s from rid t
own_epoch false s from rid t = answers s from rid (msg.OldEpoch s.epoch)

abbrev pub on_learn : SeqrState → Layout → NodeId → ℕ → Bool → SeqrTurn
on_learn s q from rid true = learns s (begun s q) from rid
on_learn s q from rid false = unfenced s.fence s from rid (answers s from rid (stand_answer s [] (scanning s)))

-- another sequencer's layout, or an older one
abbrev pub learn_or_old : SeqrState → Layout → NodeId → ℕ → Bool → SeqrTurn
learn_or_old s q from rid true = answers s from rid (msg.OldEpoch s.epoch)
learn_or_old s q from rid false = on_learn s q from rid (nat_lt s.epoch q.epoch)

unfoldable pub seqr_step : SeqrState → NodeId → ℕ → Msg → SeqrTurn
seqr_step s from rid (msg.Learn q) = learn_or_old s q from rid (not (q.seq == s.num) || nat_lt q.epoch s.epoch)
seqr_step s from rid (msg.Token e os) = own_epoch (e == s.epoch) s from rid (on_token s os from rid (scanning s))
seqr_step s from rid (msg.Check e os) = own_epoch (e == s.epoch) s from rid (answers s from rid (stand_answer s (links_of s.lists os) (scanning s)))
seqr_step s from rid m = scan_fed s s.scan from rid m

-- a tick sends the outstanding request again
unfoldable pub seqr_tick : SeqrState → SeqrTurn
seqr_tick s = record { now = s; sends = seqr_asks s }
