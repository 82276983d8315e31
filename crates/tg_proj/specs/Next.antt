-- The layout that a change makes of another.
use Rattle.std.specs.Prelude.{ℕ, ◌+◌, ◌<◌, ◌≤◌, length, slice_index_or, not, ◌&&◌, ◌==◌, nat_lt, if◌then◌else◌, List, [], ◌∷◌, ◌++◌, Option, Some, None, filter, fold}
use Rattle.tg_base.specs.declared.layout.Range.{Range}
use Rattle.tg_base.specs.declared.change.Join.{Join}
use Rattle.tg_base.specs.Units.{has}
use Rattle.tg_base.specs.Layouts.{Layout}
use Rattle.tg_base.specs.Changes.{Changed}
use Rattle.tg_proj.specs.Places.{range_at}

-- the units of a chain that aren't dropped, in the old order
abbrev pub kept : List ℕ → List ℕ → List ℕ
kept drop chain = filter (λ u. not (has drop u)) chain

-- the unit that joins the chain of a range and a stripe, if one does
abbrev pub joined : Option Join → ℕ → ℕ → List ℕ
joined None n k = []
joined (Some j) n k = if j.range == n && j.stripe == k then j.unit ∷ [] else []

abbrev pub next_chain : Changed → ℕ → ℕ → List ℕ → List ℕ
next_chain c n k chain = kept c.drop chain ++ joined c.join n k

-- the chains of range n from stripe k on
abbrev pub next_chains : Changed → ℕ → ℕ → List (List ℕ) → List (List ℕ)
next_chains c n k [] = []
next_chains c n k (chain ∷ chains) = next_chain c n k chain ∷ next_chains c n (k + 1) chains

abbrev pub next_range : Changed → ℕ → Range → Range
next_range c n r = record { lo = r.lo; stripes = next_chains c n 0 r.stripes }

-- the ranges from range n on
abbrev pub next_ranges : Changed → ℕ → List Range → List Range
next_ranges c n [] = []
next_ranges c n (r ∷ rs) = next_range c n r ∷ next_ranges c (n + 1) rs

-- the open range, if one is opened
abbrev pub opened_at : List (List ℕ) → ℕ → List Range
opened_at [] start = []
opened_at (chain ∷ chains) start = record { lo = start; stripes = chain ∷ chains } ∷ []

-- a number at its place in a rising list, once
abbrev pub rising_with : List ℕ → ℕ → List ℕ
rising_with [] u = u ∷ []
rising_with (x ∷ xs) u = if nat_lt x u then x ∷ rising_with xs u else if x == u then x ∷ xs else u ∷ x ∷ xs

-- how many numbers at the front are below a number
abbrev pub rising_place : List ℕ → ℕ → ℕ
rising_place [] u = 0
rising_place (x ∷ xs) u = if nat_lt x u then 1 + rising_place xs u else 0

abbrev pub next_gone : List ℕ → List ℕ → List ℕ
next_gone gone drop = fold rising_with gone drop

abbrev pub next_layout : Layout → Changed → ℕ → ℕ → Layout
next_layout p c by start = record {
  epoch = p.epoch + 1;
  seq = c.seq;
  start = start;
  by = by;
  gone = next_gone p.gone c.drop;
  ranges = next_ranges c 0 p.ranges ++ opened_at c.opened start;
}

-- no chain of range n, and none at all, comes to more than five units
abbrev pub StripesFit : Changed → ℕ → List (List ℕ) → Type 0
StripesFit c n stripes = (k : ℕ) → k < length stripes → length (next_chain c n k (slice_index_or stripes k [])) ≤ 5

abbrev pub RangesFit : Changed → List Range → Type 0
RangesFit c ranges = (n : ℕ) → n < length ranges → StripesFit c n (range_at ranges n).stripes
