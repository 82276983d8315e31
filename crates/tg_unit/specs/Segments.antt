-- Cells in segments of 64 positions. A segment's number and a place make a position.
use Rattle.std.specs.Prelude.{◌≡◌, ℕ, ◌+◌, ◌*◌, ◌^◌, ◌<◌, ◌≤◌, Bool, true, false, List, [], ◌∷◌, ◌++◌, filter, nat_lt, length, Option, Some, None}
use Rattle.std.specs.Int.{bit_at}
use Rattle.std.specs.Ordering.{nat_cmp}
use Rattle.std.specs.Map.{lookup}
use Rattle.std.specs.BTreeMap.{is_at}
use Rattle.tg_base.specs.declared.cell.Cell.{Cell}
use Rattle.tg_base.specs.declared.cell.Cell.TheVariants.{Junk, Data}
use Rattle.tg_protocol.specs.Words.{cell_at, cells_from}
use Rattle.tg_unit.specs.declared.segment.Segment.{Segment}

-- cells by place, as cells by position
abbrev pub by_position : ℕ → List (ℕ × Cell) → List (ℕ × Cell)
by_position num [] = []
by_position num (e ∷ es) = (64 * num + e.0, e.1) ∷ by_position num es

-- the cells of all segments, by position
abbrev pub cells_of : List (ℕ × Segment) → List (ℕ × Cell)
cells_of [] = []
cells_of (e ∷ es) = by_position e.0 e.1.cells ++ cells_of es

-- the cells below a position
abbrev pub cells_below : ℕ → List (ℕ × Cell) → List (ℕ × Cell)
cells_below low cells = filter (λ (x : ℕ × Cell). nat_lt x.0 low) cells

-- places rise from the least one on, and are below 64
abbrev pub ArePlaces : ℕ → List (ℕ × Cell) → Type 0
ArePlaces least [] = Unit {0}
ArePlaces least (e ∷ es) = (least ≤ e.0) × (e.0 < 64) × ArePlaces (e.0 + 1) es

-- there is a first cell, at a place below another
abbrev pub BeginsBelow : ℕ → List (ℕ × Cell) → Type 0
BeginsBelow place [] = ⊥
BeginsBelow place (e ∷ es) = e.0 < place

-- the first cell, if there is one, is at that place or later
abbrev pub BeginsFrom : ℕ → List (ℕ × Cell) → Type 0
BeginsFrom place [] = Unit {0}
BeginsFrom place (e ∷ es) = place ≤ e.0

-- 1 for a cell
abbrev pub one_if_held : Option Cell → ℕ
one_if_held None = 0
one_if_held (Some c) = 1

-- 1 for junk
abbrev pub one_if_junk : Option Cell → ℕ
one_if_junk None = 0
one_if_junk (Some Junk) = 1
one_if_junk (Some (Data page)) = 0

abbrev pub is_junk : Cell → Bool
is_junk Junk = true
is_junk (Data page) = false

-- the two words have a bit for each cell, and for each that is junk
pub record IsSegment (s : Segment) : Type 0 where
  pub held : (i : ℕ) → i < 64 → bit_at s.held i ≡ one_if_held (cell_at s.cells i)
  pub junk : (i : ℕ) → i < 64 → bit_at s.junk i ≡ one_if_junk (cell_at s.cells i)
  pub rising : ArePlaces 0 s.cells

-- the segments rise by number from the least one on, each has a cell, and its positions are numbers of 64 bits
abbrev pub AreSegments : ℕ → List (ℕ × Segment) → Type 0
AreSegments least [] = Unit {0}
AreSegments least (e ∷ es) = (least ≤ e.0) × IsSegment e.1 × (1 ≤ length e.1.cells) × AreSegments (e.0 + 1) es × (e.0 < 2 ^ 58)

-- each place is below 64
abbrev pub AreLow : List (ℕ × Cell) → Type 0
AreLow [] = Unit {0}
AreLow (e ∷ es) = (e.0 < 64) × AreLow es

-- the places of segments make positions of 64 bits
abbrev pub AreNear : List (ℕ × Segment) → Type 0
AreNear [] = Unit {0}
AreNear (e ∷ es) = (e.0 < 2 ^ 58) × AreLow e.1.cells × AreNear es

-- the segment with a number
abbrev pub segment_at : List (ℕ × Segment) → ℕ → Option Segment
segment_at es num = lookup (is_at (nat_cmp num)) es

-- there is a segment, and it has a cell at a place or later
abbrev pub HasFrom : ℕ → Option Segment → Type 0
HasFrom place None = ⊥
HasFrom place (Some s) = 1 ≤ length (cells_from place s.cells)

-- there is no segment, or it has no such cell
abbrev pub LacksFrom : ℕ → Option Segment → Type 0
LacksFrom place None = Unit {0}
LacksFrom place (Some s) = cells_from place s.cells ≡ []

-- no position of a segment has a cell
abbrev pub IsBare : List (ℕ × Cell) → ℕ → Type 0
IsBare cells num = (i : ℕ) → i < 64 → cell_at cells (64 * num + i) ≡ None

-- a segment tells of its 64 positions which have a cell, which have junk, and the cells
pub record TellsSegment (all : List (ℕ × Cell)) (num : ℕ) (s : Segment) : Type 0 where
  pub held : (i : ℕ) → i < 64 → bit_at s.held i ≡ one_if_held (cell_at all (64 * num + i))
  pub junk : (i : ℕ) → i < 64 → bit_at s.junk i ≡ one_if_junk (cell_at all (64 * num + i))
  pub cells : (i : ℕ) → i < 64 → cell_at s.cells i ≡ cell_at all (64 * num + i)
  pub rising : ArePlaces 0 s.cells
