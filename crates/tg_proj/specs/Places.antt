-- Which chain holds a position.
use Rattle.std.specs.Prelude.{ℕ, ◌-◌, ◌%◌, ◌<◌, ◌≤◌, nat_le, List, [], length, count_by, slice_index_or}
use Rattle.tg_base.specs.declared.layout.Range.{Range}

abbrev pub no_range : Range
no_range = record { lo = 0; stripes = [] }

-- the range and the chain at a number, counted from 0
abbrev pub range_at : List Range → ℕ → Range
range_at ranges n = slice_index_or ranges n no_range

abbrev pub chain_at : List Range → ℕ → ℕ → List ℕ
chain_at ranges n k = slice_index_or (range_at ranges n).stripes k []

-- how many ranges begin at or below a position, less one
abbrev pub range_number : List Range → ℕ → ℕ
range_number ranges pos = count_by (λ r. nat_le r.lo pos) ranges - 1

-- the last range whose lo isn't above a position
pub record IsRangeOf (ranges : List Range) (pos n : ℕ) : Type 0 where
  pub there : n < length ranges
  pub reached : (range_at ranges n).lo ≤ pos
  pub last : (m : ℕ) → n < m → m < length ranges → pos < (range_at ranges m).lo

-- the positions of a range fall to its stripes in turn
abbrev pub stripe_number : Range → ℕ → ℕ
stripe_number r pos = (pos - r.lo) % length r.stripes

-- the chain that holds a position
abbrev pub chain_for : List Range → ℕ → List ℕ
chain_for ranges pos =
    let n = range_number ranges pos in
    chain_at ranges n (stripe_number (range_at ranges n) pos)
