-- A walk goes along the path of its stream in every log that has the cells which it was told.
use Rattle.std.specs.Prelude.{◌≡◌, ℕ, ◌+◌, ◌<◌, ◌≤◌, true, false, nat_le, List, [], ◌∷◌, ◌++◌, Contains, Option, Some, None}
use Rattle.std.specs.List.{list_all}
use Rattle.tg_base.specs.Layouts.{Layout}
use Rattle.tg_base.specs.declared.cell.Cell.{Cell}
use Rattle.tg_base.specs.declared.ids.NodeId.{NodeId}
use Rattle.tg_base.specs.declared.ids.Oid.{Oid}
use Rattle.tg_base.specs.declared.msg.Msg.{Msg}
use Rattle.tg_protocol.specs.Words.{cell_at}
use Rattle.tg_entry.specs.Records.{is_falling}
use Rattle.tg_protocol.specs.Logs.{Log, path, path_on}
use Rattle.tg_protocol.specs.Requests.{Next, Goes, Learns, Ends}
use Rattle.tg_protocol.specs.Cells.{CellJob}
use Rattle.tg_protocol.specs.Walking.{Trail, next_of_trail, pointers_at, member_after, Walk, Members, at_least, walk_start, walk_again}
use Rattle.tg_stream.specs.Walks.{walk_fed}
use Rattle.tg_stream.specs.Laws.{Reads, IsReading}

-- the log has these cells
abbrev pub Holds : Log → List (ℕ × Cell) → Type 0
Holds l cells = (q : ℕ) (c : Cell) → cell_at cells q ≡ Some c → cell_at l q ≡ Some c

-- the pointers of each entry of a stream fall
abbrev pub FallsIn : Log → Oid → Type 0
FallsIn l o = (q : ℕ) (c : Cell) (ps : List ℕ) → cell_at l q ≡ Some c → pointers_at o q c ≡ Some ps → is_falling ps ≡ true

-- what the log says of a stream at a position
abbrev pub pointers_by : Oid → ℕ → Option Cell → Option (List ℕ)
pointers_by o q None = None
pointers_by o q (Some c) = pointers_at o q c

-- the members among these positions, as they are met on the way down
abbrev pub members_met : Log → Oid → List ℕ → List ℕ → List ℕ
members_met l o ms [] = ms
members_met l o ms (q ∷ qs) = members_met l o (member_after ms q (pointers_by o q (cell_at l q))) qs

-- the positions that were visited are the front of the stream's path in the log, the trail leads along its rest, and
-- the members are those that were met
pub record Along (l : Log) (o : Oid) (lasts : List ℕ) (lo : ℕ) (t : Trail) (ms : List ℕ) : Type 0 where
  pub visits : List ℕ
  pub steps : ℕ
  pub front : path l o lasts ≡ visits ++ path_on l o steps t
  pub enough : (q : ℕ) → next_of_trail t ≡ Some q → q + 2 ≤ steps
  pub from : list_all (λ q. nat_le lo q) visits ≡ true
  pub members : ms ≡ members_met l o [] visits
  pub falls : is_falling t.pointers ≡ true

abbrev pub IsAlong : Log → List ℕ → Walk → Type 0
IsAlong l lasts w = Along l w.oid lasts w.lo w.trail w.members

-- the path leads to no position from `lo` on, or to one that is trimmed
abbrev pub IsOver : Option ℕ → Option ℕ → Type 0
IsOver None next = next ≡ None
IsOver (Some b) None = true ≡ false
IsOver (Some b) (Some q) = q < b

pub record EndsAlong (l : Log) (o : Oid) (lasts : List ℕ) (lo : ℕ) (e : Members) : Type 0 where
  pub trail : Trail
  pub along : Along l o lasts lo trail e.list
  pub over : IsOver e.gone (at_least lo (next_of_trail trail))

-- a walk of the same stream to the same end
pub record GoesAlong (l : Log) (o : Oid) (lasts : List ℕ) (lo : ℕ) (w : Walk) : Type 0 where
  pub same_oid : w.oid ≡ o
  pub same_lo : w.lo ≡ lo
  pub along : IsAlong l lasts w

abbrev pub ThenAlong : Log → Oid → List ℕ → ℕ → Next Walk Members → Type 0
ThenAlong l o lasts lo (Goes w) = Holds l w.cells → GoesAlong l o lasts lo w
ThenAlong l o lasts lo (Learns w) = Holds l w.cells → GoesAlong l o lasts lo w
ThenAlong l o lasts lo (Ends e) = Holds l e.cells → EndsAlong l o lasts lo e

-- so it begins, so it goes on, and so it ends; and it reads only positions of the path
pub record FollowsPath : Type 0 where
  pub starts : (p : Layout) (o : Oid) (lasts : List ℕ) (lo : ℕ) (cells : List (ℕ × Cell)) (next : ℕ) (l : Log) →
      FallsIn l o → is_falling lasts ≡ true → ThenAlong l o lasts lo (walk_start p o lasts lo cells next).to
  pub feeds : (p : Layout) (w : Walk) (from : NodeId) (rid : ℕ) (m : Msg) (next bound : ℕ) (lasts : List ℕ) (l : Log) →
      IsReading bound w → FallsIn l w.oid → (Holds l w.cells → IsAlong l lasts w) → ThenAlong l w.oid lasts w.lo (walk_fed p w from rid m next).to
  pub resumes : (p : Layout) (w : Walk) (next : ℕ) (lasts : List ℕ) (l : Log) →
      FallsIn l w.oid → (Holds l w.cells → IsAlong l lasts w) → ThenAlong l w.oid lasts w.lo (walk_again p w next).to
  pub reads : (w : Walk) (j : CellJob) (bound : ℕ) (lasts : List ℕ) (l : Log) → Reads bound w j → IsAlong l lasts w → Contains (path l w.oid lasts) j.place.pos
