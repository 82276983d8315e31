-- One cell by messages: put down a chain, read, filled, carried down, and the probe of a chain.
use Rattle.std.specs.Prelude.{ℕ, ◌+◌, ◌-◌, Bool, true, false, not, ◌&&◌, ◌==◌, nat_lt, List, [], ◌∷◌, length, slice_index}
use Rattle.tg_base.specs.declared.cell.Cell.{Cell}
use Rattle.tg_base.specs.declared.cell.Cell.TheVariants.{Junk, Data}
use Rattle.tg_base.specs.declared.msg.Msg.TheVariants as msg
use Rattle.tg_base.specs.declared.packet.Out.{Out}
use Rattle.tg_base.specs.Layouts.{Layout}
use Rattle.tg_protocol.specs.Words.{unit_id, cell_eq}
use Rattle.tg_protocol.specs.Layouts.{chain_of}
use Rattle.tg_protocol.specs.Requests.{out, Waits, waits_for, asked_of, without_wait, Turn, turn, passes, draws, ends, Goes}
use Rattle.tg_protocol.specs.Replies.{Reply, IsHeld, IsTaken, IsUnwritten, IsGone, IsFenced, IsMissing, IsWhole}

-- a position, the units of its chain, head first, and the epoch of that layout
pub record Place : Type 0 where
  pub chain : List ℕ
  pub epoch : ℕ
  pub pos : ℕ

-- where a position stands in a layout
abbrev pub place_in : Layout → ℕ → Place
place_in p pos = record { chain = chain_of p pos; epoch = p.epoch; pos = pos }

-- what is asked, with the number of the request
pub data CellWork : Type 0 where
  Puts : (rid : ℕ) → (page : List ℕ) → (at : ℕ) → CellWork  -- a page, of the unit at this place of the chain
  Gets : (rid : ℕ) → CellWork  -- of the last unit
  Fills : (rid : ℕ) → CellWork  -- of the head
  Copies : (rid : ℕ) → (cell : Cell) → (at : ℕ) → CellWork  -- a cell, of the unit at this place
  Probes : (waits : Waits) → CellWork  -- of all units at once

pub record CellJob : Type 0 where
  pub place : Place
  pub work : CellWork

pub data CellEnd : Type 0 where
  Done : (cell : Cell) → CellEnd  -- each unit of the chain holds it
  Seen : CellEnd  -- each unit answered a probe
  Lost : (cell : Cell) → CellEnd  -- the head holds another cell than the page
  Fenced : (unit epoch : ℕ) → CellEnd  -- a unit has left the epoch
  Gone : (below : ℕ) → CellEnd  -- a unit has trimmed the position

abbrev pub CellTurn : Type 0
CellTurn = Turn CellJob CellEnd

abbrev pub unit_at : Place → ℕ → ℕ
unit_at a i = slice_index a.chain i

abbrev pub last_unit : Place → ℕ
last_unit a = unit_at a (length a.chain - 1)

unfoldable pub work_asks : Place → CellWork → List Out
work_asks a (Puts r d i) = out (unit_id (unit_at a i)) r (msg.Write a.epoch a.pos d) ∷ []
work_asks a (Gets r) = out (unit_id (last_unit a)) r (msg.Read a.epoch a.pos) ∷ []
work_asks a (Fills r) = out (unit_id (unit_at a 0)) r (msg.Fill a.epoch a.pos) ∷ []
work_asks a (Copies r c i) = out (unit_id (unit_at a i)) r (msg.Copy a.epoch a.pos c) ∷ []
work_asks a (Probes waits) = asked_of unit_id (msg.Has a.epoch a.pos a.pos 1) waits

-- the requests that are outstanding
abbrev pub cell_asks : CellJob → List Out
cell_asks j = work_asks j.place j.work

abbrev pub works : Place → CellWork → CellJob
works a w = record { place = a; work = w }

-- the beginnings

unfoldable pub put_cell : Place → List ℕ → ℕ → CellTurn
put_cell a d next = draws next (works a (Puts next d 0))

unfoldable pub get_cell : Place → ℕ → CellTurn
get_cell a next = draws next (works a (Gets next))

unfoldable pub fill_cell : Place → ℕ → CellTurn
fill_cell a next = draws next (works a (Fills next))

unfoldable pub probe : Place → ℕ → CellTurn
probe a next = turn (next + length a.chain) (Goes (works a (Probes (waits_for a.chain next))))

-- a page goes down the chain, or has reached its end
abbrev pub put_on : Place → List ℕ → ℕ → ℕ → Bool → CellTurn
put_on a d i next true = draws next (works a (Puts next d i))
put_on a d i next false = ends next (Done (Data d))

abbrev pub puts_on : Place → List ℕ → ℕ → ℕ → CellTurn
puts_on a d i next = put_on a d i next (nat_lt i (length a.chain))

-- likewise a cell
abbrev pub copy_on : Place → Cell → ℕ → ℕ → Bool → CellTurn
copy_on a c i next true = draws next (works a (Copies next c i))
copy_on a c i next false = ends next (Done c)

abbrev pub copies_on : Place → Cell → ℕ → ℕ → CellTurn
copies_on a c i next = copy_on a c i next (nat_lt i (length a.chain))

-- an end where the test holds, else the answer is passed by
abbrev pub end_if : Bool → CellJob → ℕ → CellEnd → CellTurn
end_if true j next e = ends next e
end_if false j next e = passes next j

-- a fence of a later epoch, and a trim past the position
abbrev pub if_fenced : CellJob → ℕ → ℕ → ℕ → CellTurn
if_fenced j u e next = end_if (nat_lt j.place.epoch e) j next (Fenced u e)

abbrev pub if_gone : CellJob → ℕ → ℕ → CellTurn
if_gone j b next = end_if (nat_lt j.place.pos b) j next (Gone b)

-- only the head may refuse a page, with another cell
abbrev pub if_lost : CellJob → List ℕ → ℕ → Cell → ℕ → CellTurn
if_lost j d i c next = end_if ((i == 0) && not (cell_eq c (Data d))) j next (Lost c)

-- below the head an equal cell is as good as held
abbrev pub copy_if_same : CellJob → Cell → ℕ → ℕ → Bool → CellTurn
copy_if_same j c i next true = copies_on j.place c (i + 1) next
copy_if_same j c i next false = passes next j

abbrev pub probe_on : Place → Waits → ℕ → CellTurn
probe_on a [] next = ends next Seen
probe_on a (w ∷ ws) next = turn next (Goes (works a (Probes (w ∷ ws))))

-- an awaited answer of this unit
unfoldable pub work_feed : CellJob → CellWork → ℕ → Reply → ℕ → CellTurn
work_feed j w u (IsFenced e) next = if_fenced j u e next
work_feed j (Puts r d i) u IsHeld next = puts_on j.place d (i + 1) next
work_feed j (Puts r d i) u (IsTaken c) next = if_lost j d i c next
work_feed j (Puts r d i) u (IsGone b) next = if_gone j b next
work_feed j (Gets r) u (IsTaken c) next = ends next (Done c)
work_feed j (Gets r) u IsUnwritten next = fill_cell j.place next
work_feed j (Gets r) u (IsGone b) next = if_gone j b next
work_feed j (Fills r) u IsHeld next = copies_on j.place Junk 1 next
work_feed j (Fills r) u (IsTaken c) next = copies_on j.place c 1 next
work_feed j (Fills r) u (IsGone b) next = if_gone j b next
work_feed j (Copies r c i) u IsHeld next = copies_on j.place c (i + 1) next
work_feed j (Copies r c i) u (IsTaken x) next = copy_if_same j c i next (cell_eq x c)
work_feed j (Copies r c i) u (IsGone b) next = if_gone j b next
work_feed j (Probes waits) u IsWhole next = probe_on j.place (without_wait u waits) next
work_feed j (Probes waits) u (IsMissing p) next = probe_on j.place (without_wait u waits) next
work_feed j _ u _ next = passes next j

unfoldable pub cell_feed : CellJob → ℕ → Reply → ℕ → CellTurn
cell_feed j u r next = work_feed j j.work u r next
