-- What holds of a sequencer's scan, what a turn of it tells, and which messages take memory.
use Rattle.std.specs.Prelude.{ℕ, Bool, true, false, ◌&&◌, nat_lt, List, [], Option, Some, None}
use Rattle.std.specs.List.{list_all}
use Rattle.tg_base.specs.declared.ids.NodeId.{NodeId}
use Rattle.tg_base.specs.declared.msg.Msg.{Msg}
use Rattle.tg_base.specs.declared.msg.Msg.TheVariants as msg
use Rattle.tg_base.specs.declared.packet.Out.{Out}
use Rattle.tg_base.specs.declared.turn.Turn.{Turn}
use Rattle.tg_base.specs.declared.turn.Turn.TheVariants.{More, End}
use Rattle.tg_chain.specs.Ends.{get_end}
use Rattle.tg_chain.specs.Turns.{needs_memory}
use Rattle.tg_chain.specs.declared.ends.GetCellEnd.{GetCellEnd}
use Rattle.tg_chain.specs.declared.ends.GetCellEnd.TheVariants as get
use Rattle.tg_protocol.specs.Cells.{CellJob, CellEnd, cell_asks}
use Rattle.tg_protocol.specs.Requests.{Next, Goes, Ends, awaits, drawn_from}
use Rattle.tg_protocol.specs.Sequencers.{SeqrState, seqr_asks, scan_ended}

-- the numbers of these requests are below the next one
abbrev pub all_drawn : ℕ → List Out → Bool
all_drawn next outs = list_all (λ o. nat_lt o.rid next) outs

-- a scan settles a position below the start, and each number that it awaits was drawn
abbrev pub is_scan : ℕ → ℕ → ℕ → Option CellJob → Bool
is_scan rids next start None = true
is_scan rids next start (Some j) = nat_lt next start && all_drawn rids (cell_asks j)

-- why a request is refused: it isn't of the own epoch, or the scan was fenced
abbrev pub refusal : SeqrState → Bool → Option ℕ
refusal s true = s.fence
refusal s false = Some s.epoch

-- The turn of the cell that a scan settles.

abbrev pub Turned : Type 0
Turned = Turn CellJob GetCellEnd

abbrev pub next_of : Turned → Next CellJob CellEnd
next_of (More j outs) = Goes j
next_of (End e outs) = Ends (get_end e)

abbrev pub outs_of : Turned → List Out
outs_of (More j outs) = outs
outs_of (End e outs) = []

-- it fits a sequencer that draws this number next
abbrev pub fits : ℕ → ℕ → ℕ → Turned → Bool
fits rids next start (More j outs) = nat_lt next start && all_drawn rids (cell_asks j)
fits rids next start (End e outs) = nat_lt next start

-- what is sent: the turn's own requests, or those of the position after it
abbrev pub turn_sends : SeqrState → Turned → List Out
turn_sends s (More j outs) = outs
turn_sends s (End e outs) = drawn_from s.rids (seqr_asks (scan_ended s (get_end e)))

-- Memory.

-- an end after which the scan sends nothing, and a turn likewise
abbrev pub is_last : GetCellEnd → Bool
is_last (get.Fenced u e) = true
is_last _ = false

abbrev pub is_quiet : Turned → Bool
is_quiet (More j outs) = true
is_quiet (End e outs) = is_last e

-- an awaited answer on which the scan sends or keeps something
abbrev pub moves_scan : Msg → Bool
moves_scan (msg.Gone b) = true
moves_scan m = needs_memory m

-- a sequencer needs memory for a request, and for what moves its scan
unfoldable pub takes_memory : SeqrState → NodeId → ℕ → Msg → Bool
takes_memory s from rid (msg.Learn q) = true
takes_memory s from rid (msg.Token e os) = true
takes_memory s from rid (msg.Check e os) = true
takes_memory s from rid m = awaits (seqr_asks s) from rid && moves_scan m
