-- Walks visit what was issued to a stream, settled or not, over a log that is fixed.
use Rattle.std.specs.Prelude.{◌≡◌, ◌⊎◌, ℕ, ◌<◌, ◌≤◌, Bool, true, ◌==◌, List, [], length, Some, is_some, Contains}
use Rattle.tg_base.specs.Layouts.{Layout}
use Rattle.tg_base.specs.declared.cell.Cell.{Cell}
use Rattle.tg_base.specs.declared.ids.Oid.{Oid}
use Rattle.tg_base.specs.declared.marks.StreamLink.{StreamLink}
use Rattle.tg_kind.specs.Meaning.{Meaning}
use Rattle.tg_protocol.specs.Words.{cell_at}
use Rattle.tg_protocol.specs.Requests.{Next, Goes, Learns, Ends}
use Rattle.tg_protocol.specs.Replies.{Reply}
use Rattle.tg_protocol.specs.Cells.{CellJob}
use Rattle.tg_protocol.specs.Walking.{Trail, Walk, Members, pointers_at, next_visit, walk_start, walk_feed, walk_again}
use Rattle.tg_protocol.specs.Logs.{Log}
use Rattle.tg_protocol.specs.Worlds.{World, log}
use Rattle.tg_law_cells.specs.Tokens.Issuing.{Issued}
use Rattle.tg_law_cells.specs.Order.Tails.{ConfirmedTail}
use Rattle.tg_law_walks.specs.Walks.Streams.{AreKnown, AreFalling}
use Rattle.tg_law_walks.specs.Walks.Lists.{backs}
use Rattle.tg_law_walks.specs.Walks.Walks.{AreMore, JobEndsAs, past_trim}
use Rattle.tg_law_walks.specs.Lists.Telling.{ToldLinks}

-- what was issued, by stream and position
abbrev pub Issues : Type 1
Issues = Oid → ℕ → Type 0

-- A list of a stream's positions below x misses of those that were issued only what four later ones have pushed out.
pub record IsFullBelow (is : ℕ → Type 0) (x : ℕ) (were_four : Bool) (ps : List ℕ) : Type 0 where
  pub falling : AreFalling x ps
  pub all : (q : ℕ) → is q → q < x → Contains ps q ⊎ ((were_four ≡ true) × ((y : ℕ) → Contains ps y → q ≤ y))

abbrev pub IsFull : (ℕ → Type 0) → ℕ → List ℕ → Type 0
IsFull is x ps = IsFullBelow is x (length ps == 4) ps

-- each entry's own list of a stream in which it stands is so, below a tail
abbrev pub AreFull : Log → Issues → ℕ → Type 0
AreFull l is tail = (o : Oid) (q : ℕ) (c : Cell) (ps : List ℕ) → q < tail → cell_at l q ≡ Some c → pointers_at o q c ≡ Some ps → IsFull (is o) q ps

-- where a walk goes on below x, it comes to all that was issued
pub record IsFullTrail (is : ℕ → Type 0) (x : ℕ) (t : Trail) : Type 0 where
  pub so : IsFullBelow is x t.were_four t.pointers
  pub last : t.pointers ≡ [] → t.were_four ≡ true → t.last ≡ x

-- From a position on, a cell is known wherever one was issued, below a tail.
abbrev pub AreSeen : (ℕ → Type 0) → ℕ → ℕ → List (ℕ × Cell) → Type 0
AreSeen is from tail cells = (q : ℕ) → is q → from ≤ q → q < tail → is_some (cell_at cells q) ≡ true

-- a walk below a tail
pub record IsVisiting (l : Log) (is : Issues) (tail : ℕ) (w : Walk) : Type 0 where
  pub known : AreKnown l w.cells
  pub at : ℕ
  pub within : at ≤ tail
  pub trail : IsFullTrail (is w.oid) at w.trail
  pub seen : AreSeen (is w.oid) at tail w.cells
  pub job : (j : CellJob) → w.job ≡ Some j → next_visit w ≡ Some j.place.pos

-- A walk of this stream goes on, or has ended: then it knows a cell of each position that was issued, from where it met a trim,
-- else from lo on.
abbrev pub Visits : Log → Issues → Oid → ℕ → ℕ → List (ℕ × Cell) → Next Walk Members → Type 0
Visits l is o lo tail cells (Goes w) = (w.oid ≡ o) × (w.lo ≡ lo) × AreMore cells w.cells × IsVisiting l is tail w
Visits l is o lo tail cells (Learns w) = (w.oid ≡ o) × (w.lo ≡ lo) × AreMore cells w.cells × IsVisiting l is tail w
Visits l is o lo tail cells (Ends x) = AreMore cells x.cells × AreKnown l x.cells × AreSeen (is o) (past_trim lo x.gone) tail x.cells

module _ (m : Meaning) where
  -- What was issued to a stream in an epoch, in a world.
  pub record IsIssuedTo (w : World m) (epoch : ℕ) (o : Oid) (pos : ℕ) : Type 0 where
    pub seqr : ℕ
    pub streams : List Oid
    pub links : List StreamLink
    pub issued : Issued m w seqr epoch pos streams links
    pub here : Contains streams o

  -- from a list that misses only what four later ones have pushed out
  abbrev pub WalksVisit : Type 0
  WalksVisit = (w : World m) (epoch : ℕ) (l : Log) (p : Layout) (o : Oid) (lasts : List ℕ) (lo : ℕ) (cells : List (ℕ × Cell)) (next tail : ℕ) → AreFull l (IsIssuedTo w epoch) tail →
      IsFull (IsIssuedTo w epoch o) tail lasts → AreKnown l cells → Visits l (IsIssuedTo w epoch) o lo tail cells (walk_start p o lasts lo cells next).to

  -- an answer
  abbrev pub WalksVisitOn : Type 0
  WalksVisitOn = (w : World m) (epoch : ℕ) (l : Log) (p : Layout) (k : Walk) (n : ℕ) (x : Reply) (next tail : ℕ) → AreFull l (IsIssuedTo w epoch) tail →
      IsVisiting l (IsIssuedTo w epoch) tail k → JobEndsAs l k.job n x next → Visits l (IsIssuedTo w epoch) k.oid k.lo tail k.cells (walk_feed p k k.job n x next).to

  -- a newer layout
  abbrev pub WalksVisitAgain : Type 0
  WalksVisitAgain = (w : World m) (epoch : ℕ) (l : Log) (p : Layout) (k : Walk) (next tail : ℕ) → AreFull l (IsIssuedTo w epoch) tail →
      IsVisiting l (IsIssuedTo w epoch) tail k → Visits l (IsIssuedTo w epoch) k.oid k.lo tail k.cells (walk_again p k next).to

  -- The premises, of each world of a run in which trims were spare, and of each confirmed tail: entries' own lists of the streams
  -- in which they stand are full, and so are the lists that were told with the tail.

  abbrev pub EntriesFull : World m → Type 0
  EntriesFull w = (epoch tail : ℕ) → ConfirmedTail m w w epoch tail → AreFull (log m w) (IsIssuedTo w epoch) tail

  abbrev pub TailsFull : World m → Type 0
  TailsFull w = (epoch tail : ℕ) (os : List Oid) (ls : List StreamLink) (o : Oid) → (t : ConfirmedTail m w w epoch tail) → ToldLinks m w t.layout.seq epoch os tail ls → Contains os o → IsFull (IsIssuedTo w epoch o) tail (backs o ls)
