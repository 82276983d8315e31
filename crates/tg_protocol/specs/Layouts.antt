-- Which units hold a position of a layout, and why a change of it is refused.
use Rattle.std.specs.Prelude.{ℕ, ◌+◌, ◌-◌, ◌%◌, nat_le, List, [], ◌∷◌, length, Option, if◌then◌else◌}
use Rattle.tg_base.specs.Layouts.{Layout}
use Rattle.tg_base.specs.Changes.{Changed}
use Rattle.tg_base.specs.Clusters.{Header}
use Rattle.tg_base.specs.declared.change.Join.{Join}
use Rattle.tg_base.specs.declared.layout.Range.{Range}
use Rattle.tg_proj.specs.declared.fault.ProjFault.{ProjFault}
use Rattle.tg_proj.specs.Places.{range_at, chain_for}
use Rattle.tg_proj.specs.Next.{next_layout}
use Rattle.tg_proj.specs.Refusals.{units_of as units_in, early_refusal, spare_refusal}
use Rattle.tg_protocol.specs.Words.{with_nums}

-- the header's layout
abbrev pub first_layout : Header → Layout
first_layout h = record { epoch = 1; seq = 0; start = 0; by = 0; gone = []; ranges = record { lo = 0; stripes = h.chains } ∷ [] }

-- the chain that holds a position
unfoldable pub chain_of : Layout → ℕ → List ℕ
chain_of p pos = chain_for p.ranges pos

-- the units that stand in some chain, rising
unfoldable pub units_of : Layout → List ℕ
units_of p = with_nums (units_in p.ranges) []

-- Changes.

-- the layout after a change, by this client, with this start
unfoldable pub next_of : Layout → Changed → ℕ → ℕ → Layout
next_of p c by start = next_layout p c by start

-- why this change may not be made, whatever the units answer
unfoldable pub change_fault : Layout → Changed → Option ProjFault
change_fault p c = early_refusal p c

-- the units that have to be sealed: those of the new layout, rising
abbrev pub next_units : Layout → Changed → List ℕ
next_units p c = units_of (next_of p c 0 0)

-- why a stripe's cells may not be brought to a spare unit
abbrev pub spare_fault : Layout → Join → Option ProjFault
spare_fault p j = spare_refusal p j

-- Stripes of a closed range.

-- where the range ends: the next one's first position
abbrev pub range_end : Layout → ℕ → ℕ
range_end p r = (range_at p.ranges (r + 1)).lo

-- the stripe's first position at or past this one
abbrev pub next_in_stripe : Range → ℕ → ℕ → ℕ
next_in_stripe r s pos =
    if nat_le pos (r.lo + s) then r.lo + s
    else pos + (length r.stripes - 1 - ((pos - (r.lo + s)) + length r.stripes - 1) % length r.stripes)
