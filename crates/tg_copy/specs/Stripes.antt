-- The positions of a stripe of a closed range.
use Rattle.std.specs.Prelude.{ℕ, ◌+◌, ◌-◌, ◌<◌, ◌^◌, ◌%◌, nat_le, nat_lt, length, Option, if◌then◌else◌}
use Rattle.tg_base.specs.Layouts.{Layout}
use Rattle.tg_base.specs.declared.change.Join.{Join}
use Rattle.tg_proj.specs.Places.{range_at}
use Rattle.tg_protocol.specs.Words.{where_true}
use Rattle.tg_protocol.specs.Layouts.{range_end}
use Rattle.tg_copy.specs.declared.stripe.Stripe.{Stripe}

-- the range is closed and has the stripe, whose first position has a number
pub record HasStripe (p : Layout) (j : Join) : Type 0 where
  pub closed : j.range + 1 < length p.ranges
  pub there : j.stripe < length (range_at p.ranges j.range).stripes
  pub first : (range_at p.ranges j.range).lo + j.stripe < 2 ^ 64

abbrev pub stripe_in : Layout → Join → Stripe
stripe_in p j = record { first = (range_at p.ranges j.range).lo + j.stripe; step = length (range_at p.ranges j.range).stripes; end = range_end p j.range }

-- the stripe's first position at or past this one
abbrev pub next_at : Stripe → ℕ → ℕ
next_at s pos =
    if nat_le pos s.first then s.first
    else pos + (s.step - 1 - ((pos - s.first) + s.step - 1) % s.step)

-- where it is below the end
abbrev pub next_below : Stripe → ℕ → Option ℕ
next_below s pos = where_true (nat_lt (next_at s pos) s.end) (next_at s pos)
