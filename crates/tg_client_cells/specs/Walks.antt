-- What walks leave as it was.
use Rattle.std.specs.Prelude.{◌≡◌, ℕ, ◌<◌, ◌≤◌, List, [], ◌∷◌, Option, Some, None}
use Rattle.tg_base.specs.Layouts.{Layout}
use Rattle.tg_base.specs.declared.cell.Cell.{Cell}
use Rattle.tg_base.specs.declared.ids.Oid.{Oid}
use Rattle.tg_protocol.specs.Words.{with_nums}
use Rattle.tg_protocol.specs.Requests.{Next, Goes, Learns, Ends}
use Rattle.tg_protocol.specs.Replies.{Reply}
use Rattle.tg_protocol.specs.Cells.{CellJob}
use Rattle.tg_protocol.specs.Walking.{Trail, Walk, Members, walk_start, walk_feed, walk_again}
use Rattle.tg_stream.specs.Laws.{IsBelow}
use Rattle.tg_client_cells.specs.Words.{cells_below}
use Rattle.tg_client_cells.specs.Known.{IsSettled}

-- the same cells below a position
abbrev pub SameBelow : ℕ → List (ℕ × Cell) → List (ℕ × Cell) → Type 0
SameBelow lo old new = cells_below lo new ≡ cells_below lo old

-- the cell that is read, if one is, isn't below `lo`
abbrev pub ReadsFrom : ℕ → Option CellJob → Type 0
ReadsFrom lo None = Unit {0}
ReadsFrom lo (Some j) = lo ≤ j.place.pos

-- a walk from `lo` on that began with these cells, in any state
pub record Leaves (low : ℕ) (old : List (ℕ × Cell)) (w : Walk) : Type 0 where
  pub lo : w.lo ≡ low
  pub job : ReadsFrom low w.job
  pub cells : SameBelow low old w.cells

-- and what becomes of it
abbrev pub ThenLeaves : ℕ → List (ℕ × Cell) → Next Walk Members → Type 0
ThenLeaves lo cells (Goes w) = Leaves lo cells w
ThenLeaves lo cells (Learns w) = Leaves lo cells w
ThenLeaves lo cells (Ends x) = SameBelow lo cells x.cells

-- a walk changes no cell below `lo`
pub record LeavesBelow : Type 0 where
  pub starts : (p : Layout) (o : Oid) (lasts : List ℕ) (lo : ℕ) (cells : List (ℕ × Cell)) (next : ℕ) → ThenLeaves lo cells (walk_start p o lasts lo cells next).to
  pub feeds : (p : Layout) (w : Walk) (unit : ℕ) (x : Reply) (next lo : ℕ) (cells : List (ℕ × Cell)) → Leaves lo cells w → ThenLeaves lo cells (walk_feed p w w.job unit x next).to
  pub resumes : (p : Layout) (w : Walk) (next lo : ℕ) (cells : List (ℕ × Cell)) → Leaves lo cells w → ThenLeaves lo cells (walk_again p w next).to

-- Settled cells.

-- a walk over settled cells, which reads no position below the settled one
pub record OverSettled (own : List ℕ) (s : ℕ) (w : Walk) : Type 0 where
  pub from : s ≤ w.lo
  pub job : ReadsFrom w.lo w.job
  pub cells : IsSettled own s w.cells

-- and what becomes of it
abbrev pub ThenSettled : List ℕ → ℕ → Next Walk Members → Type 0
ThenSettled own s (Goes w) = OverSettled own s w
ThenSettled own s (Learns w) = OverSettled own s w
ThenSettled own s (Ends x) = IsSettled own s x.cells

-- settled cells are settled whatever a walk down to the settled position meets
pub record KeepsSettled : Type 0 where
  pub starts : (p : Layout) (o : Oid) (lasts : List ℕ) (lo : ℕ) (cells : List (ℕ × Cell)) (next : ℕ) (own : List ℕ) (s : ℕ) → s ≤ lo → IsSettled own s cells →
      ThenSettled own s (walk_start p o lasts lo cells next).to
  pub feeds : (p : Layout) (w : Walk) (unit : ℕ) (x : Reply) (next : ℕ) (own : List ℕ) (s : ℕ) → OverSettled own s w → ThenSettled own s (walk_feed p w w.job unit x next).to
  pub resumes : (p : Layout) (w : Walk) (next : ℕ) (own : List ℕ) (s : ℕ) → OverSettled own s w → ThenSettled own s (walk_again p w next).to

-- The members that are found.

-- positions that rise, each once
abbrev pub InOrder : List ℕ → Type 0
InOrder ps = with_nums ps [] ≡ ps

-- a position below the first of these
abbrev pub BelowFirst : List ℕ → ℕ → Type 0
BelowFirst [] q = Unit {0}
BelowFirst (m ∷ ms) q = q < m

-- a trail that leads below the first of these
abbrev pub LeadsBelow : List ℕ → Trail → Type 0
LeadsBelow [] t = Unit {0}
LeadsBelow (m ∷ ms) t = IsBelow m t

abbrev pub ReadsBelow : List ℕ → Option CellJob → Type 0
ReadsBelow ms None = Unit {0}
ReadsBelow ms (Some j) = BelowFirst ms j.place.pos

-- a walk whose members rise, and which finds others only below them
pub record FindsDown (w : Walk) : Type 0 where
  pub members : InOrder w.members
  pub trail : LeadsBelow w.members w.trail
  pub job : ReadsBelow w.members w.job

-- and what becomes of it
abbrev pub ThenInOrder : Next Walk Members → Type 0
ThenInOrder (Goes w) = FindsDown w
ThenInOrder (Learns w) = FindsDown w
ThenInOrder (Ends x) = InOrder x.list

-- the members that a walk finds rise, whatever the last positions and the pointers are
pub record FindsInOrder : Type 0 where
  pub starts : (p : Layout) (o : Oid) (lasts : List ℕ) (lo : ℕ) (cells : List (ℕ × Cell)) (next : ℕ) → ThenInOrder (walk_start p o lasts lo cells next).to
  pub feeds : (p : Layout) (w : Walk) (unit : ℕ) (x : Reply) (next : ℕ) → FindsDown w → ThenInOrder (walk_feed p w w.job unit x next).to
  pub resumes : (p : Layout) (w : Walk) (next : ℕ) → FindsDown w → ThenInOrder (walk_again p w next).to
