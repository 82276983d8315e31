-- Why a layout may not change so: eight refusals, of which the first counts.
use Rattle.std.specs.Prelude.{◌≡◌, ◌≤◌, ℕ, ◌+◌, Bool, true, false, ◌&&◌, ◌||◌, ◌==◌, nat_lt, nat_le, min, max, if◌then◌else◌, List, [], ◌∷◌, ◌++◌, length, find, fold, Option, Some, None, option_map, Result, Ok, Err}
use Rattle.std.specs.List.{list_any, concat, position_from}
use Rattle.tg_base.specs.declared.layout.Range.{Range}
use Rattle.tg_base.specs.declared.change.Join.{Join}
use Rattle.tg_base.specs.declared.fault.Many.TheVariants.{Ranges, Units}
use Rattle.tg_base.specs.Units.{has}
use Rattle.tg_base.specs.Layouts.{Layout}
use Rattle.tg_base.specs.Changes.{Changed}
use Rattle.tg_proj.specs.declared.fault.ProjFault.{ProjFault}
use Rattle.tg_proj.specs.declared.fault.ProjFault.TheVariants.{NoReplica, NotAcked, Returned, TooMany, NotClosed, NoStripe, InChain}
use Rattle.tg_proj.specs.Places.{range_at, chain_at}
use Rattle.tg_proj.specs.Next.{kept, next_ranges, opened_at}

-- the first that there is
abbrev pub first_some : {A : Type 0} → Option A → Option A → Option A
first_some None b = b
first_some (Some a) b = Some a

abbrev pub on_test : Bool → ProjFault → Option ProjFault
on_test true fault = Some fault
on_test false fault = None

-- a further range would be opened, and 32 stand
abbrev pub opens_too_many : Layout → Changed → Bool
opens_too_many p c = nat_lt 0 (length c.opened) && nat_le 32 (length p.ranges)

-- the range is the last, or none
abbrev pub is_not_closed : Layout → Join → Bool
is_not_closed p j = nat_le (length p.ranges) (j.range + 1)

abbrev pub has_no_stripe : Layout → Join → Bool
has_no_stripe p j = nat_le (length (range_at p.ranges j.range).stripes) j.stripe

abbrev pub stands_there : Layout → Join → Bool
stands_there p j = has (chain_at p.ranges j.range j.stripe) j.unit

-- five units stay
abbrev pub is_full : Layout → List ℕ → Join → Bool
is_full p drop j = nat_le 5 (length (kept drop (chain_at p.ranges j.range j.stripe)))

abbrev pub join_refusal : Layout → List ℕ → Option Join → Option ProjFault
join_refusal p drop None = None
join_refusal p drop (Some j) =
    if is_not_closed p j then Some (NotClosed j.range)
    else if has_no_stripe p j then Some (NoStripe j.range j.stripe)
    else if stands_there p j then Some (InChain j.unit)
    else if is_full p drop j then Some (TooMany Units)
    else None

-- why a stripe's cells may not be brought to a spare unit
abbrev pub spare_refusal : Layout → Join → Option ProjFault
spare_refusal p j =
    if is_not_closed p j then Some (NotClosed j.range)
    else if has_no_stripe p j then Some (NoStripe j.range j.stripe)
    else if stands_there p j then Some (InChain j.unit)
    else if has p.gone j.unit then Some (Returned j.unit)
    else None

abbrev pub is_out : Layout → Changed → ℕ → Bool
is_out p c u = has p.gone u || has c.drop u

abbrev pub joining : Option Join → List ℕ
joining None = []
joining (Some j) = j.unit ∷ []

-- the units that come in: those of the opened range, and then the one that joins
abbrev pub coming : Changed → List ℕ
coming c = concat c.opened ++ joining c.join

abbrev pub return_refusal : Layout → Changed → Option ProjFault
return_refusal p c = option_map Returned (find (is_out p c) (coming c))

abbrev pub is_lost : List ℕ → List ℕ → Bool
is_lost drop chain = length (kept drop chain) == 0

-- the first stripe of which no unit stays, of the ranges from range n on
abbrev pub lost_refusal : List ℕ → ℕ → List Range → Option ProjFault
lost_refusal drop n [] = None
lost_refusal drop n (r ∷ rs) = first_some (option_map (λ k. NoReplica n k) (position_from (is_lost drop) 0 r.stripes)) (lost_refusal drop (n + 1) rs)

-- an ack names a unit and one past the highest position that it has
abbrev pub Ack : Type 0
Ack = ℕ × ℕ

abbrev pub is_acked : List Ack → ℕ → Bool
is_acked acks u = list_any (λ a. a.0 == u) acks

abbrev pub lesser : Option ℕ → ℕ → ℕ
lesser None u = u
lesser (Some v) u = min v u

-- the least unit without an ack, of those seen and one more
abbrev pub less_unacked : List Ack → Option ℕ → ℕ → Option ℕ
less_unacked acks best u = if is_acked acks u then best else Some (lesser best u)

abbrev pub units_of : List Range → List ℕ
units_of [] = []
units_of (r ∷ rs) = concat r.stripes ++ units_of rs

abbrev pub ack_refusal : Layout → Changed → List Ack → Option ProjFault
ack_refusal p c acks = option_map NotAcked (fold (less_unacked acks) None (units_of (next_ranges c 0 p.ranges ++ opened_at c.opened 0)))

-- the first of the seven that need no ack
abbrev pub early_refusal : Layout → Changed → Option ProjFault
early_refusal p c =
    first_some (on_test (opens_too_many p c) (TooMany Ranges))
    (first_some (join_refusal p c.drop c.join)
    (first_some (return_refusal p c)
    (lost_refusal c.drop 0 p.ranges)))

abbrev pub refusal : Layout → Changed → List Ack → Option ProjFault
refusal p c acks = first_some (early_refusal p c) (ack_refusal p c acks)

-- the greatest of the old start and the acks' numbers
abbrev pub new_start : ℕ → List Ack → ℕ
new_start start acks = fold (λ s a. max s a.1) start acks

abbrev pub start_or : Option ProjFault → ℕ → Result ℕ ProjFault
start_or None start = Ok start
start_or (Some fault) start = Err fault

abbrev pub next_start : Layout → Changed → List Ack → Result ℕ ProjFault
next_start p c acks = start_or (refusal p c acks) (new_start p.start acks)

-- nothing but an ack may be wanting, and the new start isn't below the old
pub record MayFollow (p : Layout) (c : Changed) (start : ℕ) : Type 0 where
  pub allowed : early_refusal p c ≡ None
  pub later : p.start ≤ start

abbrev pub is_about_acks : ProjFault → Bool
is_about_acks (NotAcked u) = true
is_about_acks other = false
