-- Items that name each of some names at least once.
use Rattle.std.specs.Prelude.{ℕ, ◌-◌, ◌==◌, not, List, length, map, filter, if◌then◌else◌}

-- How many items are left, the names without one, and all names.
pub record Debt : Type 0 where
  pub left : ℕ
  pub missing : List ℕ
  pub names : List ℕ

-- these numbers and no others
abbrev pub points : List ℕ → List (ℕ × ℕ)
points xs = map (λ x. (x, x)) xs

-- at first no name has an item
abbrev pub owing : ℕ → List ℕ → Debt
owing n names = record { left = n; missing = names; names = names }

-- An item has one of the names. Where as many items are left as there are names without one, it has one of
-- these.
abbrev pub named : Debt → List (ℕ × ℕ)
named o = if length o.missing == o.left then points o.missing else points o.names

abbrev pub paid : Debt → ℕ → Debt
paid o name = record { left = o.left - 1; missing = filter (λ x. not (x == name)) o.missing; names = o.names }
