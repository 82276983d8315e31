-- Units and chains of them, and lists in order.
use Rattle.std.specs.Prelude.{ℕ, Bool, true, not, ◌&&◌, ◌==◌, nat_lt, nat_le, List, [], ◌∷◌, length}
use Rattle.std.specs.List.{list_all, list_any}

-- each number is above the one before it
abbrev pub is_rising : List ℕ → Bool
is_rising [] = true
is_rising (x ∷ []) = true
is_rising (x ∷ y ∷ ys) = nat_lt x y && is_rising (y ∷ ys)

-- no number is below the one before it
abbrev pub never_falls : List ℕ → Bool
never_falls [] = true
never_falls (x ∷ []) = true
never_falls (x ∷ y ∷ ys) = nat_le x y && never_falls (y ∷ ys)

-- whether a number stands in a list
abbrev pub has : List ℕ → ℕ → Bool
has xs x = list_any (λ y. y == x) xs

-- no number stands twice
abbrev pub is_distinct : List ℕ → Bool
is_distinct [] = true
is_distinct (x ∷ xs) = not (has xs x) && is_distinct xs

-- a number from low to high
abbrev pub is_within : ℕ → ℕ → ℕ → Bool
is_within low high n = nat_le low n && nat_le n high

-- the number of a unit
abbrev pub is_unit : ℕ → Bool
is_unit u = nat_lt u 64

-- one to five units, each once
abbrev pub is_chain : List ℕ → Bool
is_chain units = is_within 1 5 (length units) && list_all is_unit units && is_distinct units
