-- A walk's state in the words of the rules.
use Rattle.std.specs.Prelude.{ℕ, Bool, true, false, List, [], Option, Some, None}
use Rattle.tg_base.specs.Layouts.{Layout}
use Rattle.tg_base.specs.declared.cell.Cell.{Cell}
use Rattle.tg_base.specs.declared.ids.NodeId.{NodeId}
use Rattle.tg_base.specs.declared.ids.Oid.{Oid}
use Rattle.tg_base.specs.declared.msg.Msg.{Msg}
use Rattle.tg_protocol.specs.Replies.{reply}
use Rattle.tg_protocol.specs.Requests.{passes, ends, awaits}
use Rattle.tg_protocol.specs.Cells.{CellJob, CellEnd, Done, place_in, get_cell}
use Rattle.tg_protocol.specs.Walking.{Trail, trail, Walk, Members, WalkTurn, walk_asks, walk_feed, visited, seen_with, read_at, walk_members, reads_turn}
use Rattle.tg_stream.specs.declared.members.Members.{Members as Given}

-- what goes on of a walk in a newer layout
pub record Course : Type 0 where
  pub oid : Oid
  pub lo : ℕ
  pub cells : List (ℕ × Cell)
  pub trail : Trail
  pub members : List ℕ

-- and a walk that has come so far, with the cell that it reads
abbrev pub walk_of : Course → Option CellJob → Walk
walk_of s j = record { oid = s.oid; lo = s.lo; cells = s.cells; trail = s.trail; members = s.members; job = j }

abbrev pub course_of : Walk → Course
course_of w = record { oid = w.oid; lo = w.lo; cells = w.cells; trail = w.trail; members = w.members }

-- a walk begins
abbrev pub begun : Oid → List ℕ → ℕ → List (ℕ × Cell) → Course
begun o lasts lo cells = record { oid = o; lo = lo; cells = cells; trail = trail lasts 0; members = [] }

-- a position has been seen, with these pointers
abbrev pub seen : Course → ℕ → Option (List ℕ) → Course
seen s q ps = course_of (seen_with (walk_of s None) q ps)

-- where its cell is known
abbrev pub seen_if : Course → ℕ → Option Cell → Course
seen_if s q None = s
seen_if s q (Some c) = course_of (visited (walk_of s None) q c)

-- and where it has been read
abbrev pub read : Course → ℕ → Cell → Course
read s q c = course_of (read_at (walk_of s None) q c)

-- what becomes of a walk at the end of known cells: a position is read, or the walk is over
abbrev pub comes_to : Layout → ℕ → Walk → Option ℕ → WalkTurn
comes_to p next w None = ends next (walk_members w None)
comes_to p next w (Some q) = reads_turn w (get_cell (place_in p q) next)

abbrev pub members_of : Given → Members
members_of e = record { list = e.list; gone = e.gone; cells = e.cells }

-- a read that has ended with the cell
abbrev pub has_cell : CellEnd → Bool
has_cell (Done c) = true
has_cell _ = false

-- an answer to an outstanding request is taken, and every other message is passed by
abbrev pub walk_fed_if : Bool → Layout → Walk → ℕ → Msg → ℕ → WalkTurn
walk_fed_if true p w n m next = walk_feed p w w.job n (reply m) next
walk_fed_if false p w n m next = passes next w

abbrev pub walk_fed : Layout → Walk → NodeId → ℕ → Msg → ℕ → WalkTurn
walk_fed p w from rid m next = walk_fed_if (awaits (walk_asks w) from rid) p w from.num m next
