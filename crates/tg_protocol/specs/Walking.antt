-- The walk of one stream, from its last positions down by the entries' own pointers.
use Rattle.std.specs.Prelude.{ℕ, zero, suc, ◌+◌, ◌-◌, Bool, true, false, ◌==◌, nat_lt, nat_le, List, [], ◌∷◌, length, filter, Option, Some, None}
use Rattle.tg_base.specs.Layouts.{Layout}
use Rattle.tg_base.specs.declared.cell.Cell.{Cell}
use Rattle.tg_base.specs.declared.cell.Cell.TheVariants.{Junk, Data}
use Rattle.tg_base.specs.declared.ids.Oid.{Oid}
use Rattle.tg_base.specs.declared.packet.Out.{Out}
use Rattle.tg_entry.specs.declared.entry.Entry.{Entry}
use Rattle.tg_protocol.specs.Words.{cell_at, with_cell, where_true}
use Rattle.tg_protocol.specs.Entries.{lists, backs_in}
use Rattle.tg_protocol.specs.Pages.{entry_of}
use Rattle.tg_protocol.specs.Requests.{Next, Goes, Learns, Ends, Turn, turn, passes, ends, learns, met_gone}
use Rattle.tg_protocol.specs.Replies.{Reply}
use Rattle.tg_protocol.specs.Cells.{CellJob, CellEnd, CellTurn, Done, Fenced, Gone, place_in, get_cell, cell_asks, cell_feed}

-- where a walk goes on: the pointers that are left, whether they were four, and the position last visited
pub record Trail : Type 0 where
  pub pointers : List ℕ
  pub were_four : Bool
  pub last : ℕ

abbrev pub trail : List ℕ → ℕ → Trail
trail ps last = record { pointers = ps; were_four = length ps == 4; last = last }

abbrev pub go_down : Bool → ℕ → Option ℕ
go_down true last = where_true (nat_lt 0 last) (last - 1)
go_down false last = None

-- the newest pointer; where four were used up, one position down
abbrev pub next_on : Trail → List ℕ → Option ℕ
next_on t [] = go_down t.were_four t.last
next_on t (q ∷ qs) = Some q

abbrev pub next_of_trail : Trail → Option ℕ
next_of_trail t = next_on t t.pointers

abbrev pub rest_of : List ℕ → List ℕ
rest_of [] = []
rest_of (q ∷ qs) = qs

-- what the cell at a position says of a stream: its entry's own pointers below, None where it lists no such stream
abbrev pub listed : Oid → ℕ → Option Entry → Option (List ℕ)
listed o q None = None
listed o q (Some e) = where_true (lists e o) (filter (λ b. nat_lt b q) (backs_in e o))

abbrev pub pointers_at : Oid → ℕ → Cell → Option (List ℕ)
pointers_at o q Junk = None
pointers_at o q (Data d) = listed o q (entry_of d)

abbrev pub trail_after : Trail → ℕ → Option (List ℕ) → Trail
trail_after t q None = record { pointers = rest_of t.pointers; were_four = t.were_four; last = q }
trail_after t q (Some ps) = trail ps q

abbrev pub member_after : List ℕ → ℕ → Option (List ℕ) → List ℕ
member_after ms q None = ms
member_after ms q (Some ps) = q ∷ ms

pub record Walk : Type 0 where
  pub oid : Oid
  pub lo : ℕ  -- positions below it aren't visited
  pub cells : List (ℕ × Cell)  -- known ones
  pub trail : Trail
  pub members : List ℕ  -- found so far, rising
  pub job : Option CellJob  -- the cell that is read

pub record Members : Type 0 where
  pub list : List ℕ
  pub gone : Option ℕ  -- where it met a trim
  pub cells : List (ℕ × Cell)

abbrev pub WalkTurn : Type 0
WalkTurn = Turn Walk Members

abbrev pub job_asks : Option CellJob → List Out
job_asks None = []
job_asks (Some j) = cell_asks j

abbrev pub walk_asks : Walk → List Out
walk_asks w = job_asks w.job

-- the cell at a position has been seen, with these pointers
abbrev pub seen_with : Walk → ℕ → Option (List ℕ) → Walk
seen_with w q ps = record w { trail = trail_after w.trail q ps; members = member_after w.members q ps }

abbrev pub visited : Walk → ℕ → Cell → Walk
visited w q c = seen_with w q (pointers_at w.oid q c)

abbrev pub walk_members : Walk → Option ℕ → Members
walk_members w gone = record { list = w.members; gone = gone; cells = w.cells }

abbrev pub with_job : Walk → CellJob → Walk
with_job w j = record w { job = Some j }

abbrev pub reads_next : Walk → Next CellJob CellEnd → ℕ → WalkTurn
reads_next w (Goes j) next = turn next (Goes (with_job w j))
reads_next w _ next = passes next w

abbrev pub reads_turn : Walk → CellTurn → WalkTurn
reads_turn w c = reads_next w c.to c.next

-- the position to visit next, at or past `lo`
abbrev pub at_least : ℕ → Option ℕ → Option ℕ
at_least lo None = None
at_least lo (Some q) = where_true (nat_le lo q) q

abbrev pub next_visit : Walk → Option ℕ
next_visit w = at_least w.lo (next_of_trail w.trail)

-- on over known cells, to the first that must be read or to the end; each visit goes further down, so n need only be past the first position
unfoldable pub walk_on : Layout → ℕ → ℕ → Walk → WalkTurn
walk_on p next zero w = ends next (walk_members w None)
walk_on p next (suc n) w = elim (next_visit w) as (λ _. WalkTurn) [
  | None ↦ ends next (walk_members w None)
  | Some q ↦ elim (cell_at w.cells q) as (λ _. WalkTurn) [
    | Some c ↦ walk_on p next n (visited w q c)
    | None ↦ reads_turn w (get_cell (place_in p q) next)
  ]
]

abbrev pub steps_left : Option ℕ → ℕ
steps_left None = 1
steps_left (Some q) = q + 2

abbrev pub walk_from : Layout → ℕ → Walk → WalkTurn
walk_from p next w = walk_on p next (steps_left (next_visit w)) w

unfoldable pub walk_start : Layout → Oid → List ℕ → ℕ → List (ℕ × Cell) → ℕ → WalkTurn
walk_start p o lasts lo cells next = walk_from p next (record { oid = o; lo = lo; cells = cells; trail = trail lasts 0; members = []; job = None })

abbrev pub read_at : Walk → ℕ → Cell → Walk
read_at w q c = visited (record w { cells = with_cell w.cells q c }) q c

abbrev pub walk_end : Layout → Walk → ℕ → CellEnd → ℕ → WalkTurn
walk_end p w q (Done c) next = walk_from p next (read_at w q c)
walk_end p w q (Gone b) next = met_gone b (ends next (walk_members w (Some b)))
walk_end p w q (Fenced u e) next = learns next w
walk_end p w q _ next = passes next w

abbrev pub walk_next : Layout → Walk → ℕ → Next CellJob CellEnd → ℕ → WalkTurn
walk_next p w q (Goes j) next = turn next (Goes (with_job w j))
walk_next p w q (Learns j) next = learns next w
walk_next p w q (Ends e) next = walk_end p w q e next

abbrev pub walk_turn : Layout → Walk → ℕ → CellTurn → WalkTurn
walk_turn p w q c = walk_next p w q c.to c.next

-- an awaited answer of a unit
unfoldable pub walk_feed : Layout → Walk → Option CellJob → ℕ → Reply → ℕ → WalkTurn
walk_feed p w None u x next = passes next w
walk_feed p w (Some j) u x next = walk_turn p w j.place.pos (cell_feed j u x next)

-- in a newer layout it goes on where it was
abbrev pub walk_again : Layout → Walk → ℕ → WalkTurn
walk_again p w next = walk_from p next w
