-- Walks of a stream over a log that is fixed.
use Rattle.std.specs.Prelude.{◌≡◌, ◌⊎◌, ℕ, ◌≤◌, true, List, [], Option, Some, None, is_some, Contains}
use Rattle.tg_base.specs.Layouts.{Layout}
use Rattle.tg_base.specs.declared.cell.Cell.{Cell}
use Rattle.tg_base.specs.declared.ids.Oid.{Oid}
use Rattle.tg_protocol.specs.Words.{cell_at}
use Rattle.tg_protocol.specs.Requests.{Next, Goes, Learns, Ends}
use Rattle.tg_protocol.specs.Replies.{Reply}
use Rattle.tg_protocol.specs.Cells.{CellJob, CellEnd, Done, cell_feed}
use Rattle.tg_protocol.specs.Walking.{Trail, Walk, Members, next_visit, walk_start, walk_feed, walk_again}
use Rattle.tg_protocol.specs.Logs.{Log, members}
use Rattle.tg_law_walks.specs.Walks.Streams.{IsByPosition, AreKnown, IsListBelow, IsGood, AreLinked}

-- a cell is known at each of these positions
abbrev pub AreRead : List (ℕ × Cell) → List ℕ → Type 0
AreRead cells ps = (q : ℕ) → Contains ps q → is_some (cell_at cells q) ≡ true

-- where a walk goes on below x, it finds all that stand in the stream
pub record IsTrailBelow (l : Log) (o : Oid) (x : ℕ) (t : Trail) : Type 0 where
  pub so : IsListBelow l o x t.were_four t.pointers
  pub last : t.pointers ≡ [] → t.were_four ≡ true → t.last ≡ x

-- a walk below a tail has found the stream's positions from one on
pub record IsWalking (l : Log) (tail : ℕ) (w : Walk) : Type 0 where
  pub known : AreKnown l w.cells
  pub at : ℕ
  pub within : at ≤ tail
  pub low : (w.lo ≤ at) ⊎ (at ≡ tail)
  pub trail : IsTrailBelow l w.oid at w.trail
  pub found : w.members ≡ members l w.oid at tail
  pub read : AreRead w.cells w.members
  pub job : (j : CellJob) → w.job ≡ Some j → next_visit w ≡ Some j.place.pos

-- from where on a walk from lo that met this trim has all
abbrev pub past_trim : ℕ → Option ℕ → ℕ
past_trim lo None = lo
past_trim lo (Some b) = b

-- what a walk has found are the stream's positions in the log: from `from` on, below the tail
pub record IsExact (l : Log) (o : Oid) (lo tail : ℕ) (x : Members) : Type 0 where
  pub known : AreKnown l x.cells
  pub from : ℕ
  pub after : lo ≤ from
  pub before : from ≤ past_trim lo x.gone
  pub is : x.list ≡ members l o from tail
  pub read : AreRead x.cells x.list

-- what was known still is
abbrev pub AreMore : List (ℕ × Cell) → List (ℕ × Cell) → Type 0
AreMore cells more = (q : ℕ) → is_some (cell_at cells q) ≡ true → is_some (cell_at more q) ≡ true

-- a walk of this stream goes on, or has ended
abbrev pub Walks : Log → Oid → ℕ → ℕ → List (ℕ × Cell) → Next Walk Members → Type 0
Walks l o lo tail cells (Goes w) = (w.oid ≡ o) × (w.lo ≡ lo) × AreMore cells w.cells × IsWalking l tail w
Walks l o lo tail cells (Learns w) = (w.oid ≡ o) × (w.lo ≡ lo) × AreMore cells w.cells × IsWalking l tail w
Walks l o lo tail cells (Ends x) = AreMore cells x.cells × IsExact l o lo tail x

-- a walk that begins, or goes on in a newer layout: it meets no trim at once
abbrev pub Begins : Log → Oid → ℕ → ℕ → List (ℕ × Cell) → Next Walk Members → Type 0
Begins l o lo tail cells (Goes w) = (w.oid ≡ o) × (w.lo ≡ lo) × AreMore cells w.cells × IsWalking l tail w
Begins l o lo tail cells (Learns w) = ⊥
Begins l o lo tail cells (Ends x) = AreMore cells x.cells × IsExact l o lo tail x × (x.gone ≡ None)

-- The cell with which a cell's job ends is the log's. Of walks in a run it is so where no unit has trimmed the position
-- (`WalksReadLog`); else there lacks that trimmed cells stay in the log.
abbrev pub EndsAs : Log → ℕ → Next CellJob CellEnd → Type 0
EndsAs l q (Ends (Done c)) = cell_at l q ≡ Some c
EndsAs l q x = Unit {0}

-- what a walk's cell ends with, at an answer
abbrev pub JobEndsAs : Log → Option CellJob → ℕ → Reply → ℕ → Type 0
JobEndsAs l None n x next = Unit {0}
JobEndsAs l (Some j) n x next = EndsAs l j.place.pos (cell_feed j n x next).to

-- a walk from a good list
abbrev pub WalksStart : Type 0
WalksStart = (l : Log) (p : Layout) (o : Oid) (lasts : List ℕ) (lo : ℕ) (cells : List (ℕ × Cell)) (next tail : ℕ) → IsByPosition l → AreLinked l →
    IsGood l o tail lasts → AreKnown l cells → Begins l o lo tail cells (walk_start p o lasts lo cells next).to

-- an answer
abbrev pub WalksFeed : Type 0
WalksFeed = (l : Log) (p : Layout) (w : Walk) (n : ℕ) (x : Reply) (next tail : ℕ) → IsByPosition l → AreLinked l →
    IsWalking l tail w → JobEndsAs l w.job n x next → Walks l w.oid w.lo tail w.cells (walk_feed p w w.job n x next).to

-- a newer layout
abbrev pub WalksAgain : Type 0
WalksAgain = (l : Log) (p : Layout) (w : Walk) (next tail : ℕ) → IsByPosition l → AreLinked l →
    IsWalking l tail w → Begins l w.oid w.lo tail w.cells (walk_again p w next).to
