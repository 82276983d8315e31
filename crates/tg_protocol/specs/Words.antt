-- Small words for nodes, objects, parts and lists.
use Rattle.std.specs.Prelude.{ℕ, zero, suc, ◌+◌, ◌-◌, ◌^◌, Bool, true, false, ◌&&◌, ◌||◌, ◌==◌, nat_lt, nat_le, min, List, [], ◌∷◌, filter, Option, Some, None, if◌then◌else◌}
use Rattle.std.specs.Ordering.{nat_cmp}
use Rattle.std.specs.Map.{lookup}
use Rattle.std.specs.BTreeMap.{insert_entry, is_at}
use Rattle.std.specs.List.{list_any}
use Rattle.tg_base.specs.Orders.{oid_eq, oid_lt}
use Rattle.tg_base.specs.declared.cell.Cell.{Cell}
use Rattle.tg_base.specs.declared.cell.Cell.TheVariants.{Junk, Data}
use Rattle.tg_base.specs.declared.ids.Ballot.{Ballot}
use Rattle.tg_base.specs.declared.ids.NodeId.{NodeId}
use Rattle.tg_base.specs.declared.ids.Oid.{Oid}
use Rattle.tg_base.specs.declared.ids.Role.{Role}
use Rattle.tg_base.specs.declared.ids.Role.TheVariants as role
use Rattle.tg_base.specs.declared.marks.Part.{Part}
use Rattle.tg_base.specs.declared.marks.Part.TheVariants.{All, Text, Num}

-- Nodes.

abbrev pub unit_id : ℕ → NodeId
unit_id n = record { role = role.Unit; num = n }

abbrev pub layout_id : ℕ → NodeId
layout_id n = record { role = role.Layout; num = n }

abbrev pub seqr_id : ℕ → NodeId
seqr_id n = record { role = role.Seqr; num = n }

abbrev pub client_id : ℕ → NodeId
client_id n = record { role = role.Client; num = n }

-- by round, then by client
abbrev pub ballot_lt : Ballot → Ballot → Bool
ballot_lt a b = nat_lt a.round b.round || ((a.round == b.round) && nat_lt a.client b.client)

-- Objects and parts.

-- the directory, `dir0`
abbrev pub directory : Oid
directory = record { 0 = 0 }

unfoldable pub bytes_eq : List ℕ → List ℕ → Bool
bytes_eq [] [] = true
bytes_eq (x ∷ xs) (y ∷ ys) = (x == y) && bytes_eq xs ys
bytes_eq _ _ = false

unfoldable pub bytes_lt : List ℕ → List ℕ → Bool
bytes_lt [] (y ∷ ys) = true
bytes_lt (x ∷ xs) (y ∷ ys) = nat_lt x y || ((x == y) && bytes_lt xs ys)
bytes_lt _ [] = false

-- the whole first, then texts by their bytes, then numbers
unfoldable pub part_lt : Part → Part → Bool
part_lt All All = false
part_lt All _ = true
part_lt (Text a) (Text b) = bytes_lt a b
part_lt (Text a) (Num b) = true
part_lt (Num a) (Num b) = nat_lt a b
part_lt _ _ = false

unfoldable pub cell_eq : Cell → Cell → Bool
cell_eq Junk Junk = true
cell_eq (Data a) (Data b) = bytes_eq a b
cell_eq _ _ = false

-- Cells by position, as a tree map's entries.

abbrev pub cell_at : List (ℕ × Cell) → ℕ → Option Cell
cell_at cells p = lookup (is_at (nat_cmp p)) cells

abbrev pub with_cell : List (ℕ × Cell) → ℕ → Cell → List (ℕ × Cell)
with_cell cells p c = insert_entry nat_cmp cells p c

abbrev pub cells_from : ℕ → List (ℕ × Cell) → List (ℕ × Cell)
cells_from low cells = filter (λ (e : ℕ × Cell). nat_le low e.0) cells

-- Lists.

abbrev pub has_num : ℕ → List ℕ → Bool
has_num x xs = list_any (λ y. x == y) xs

abbrev pub has_oid : Oid → List Oid → Bool
has_oid o os = list_any (λ p. oid_eq o p) os

-- a rising list with one number more
abbrev pub with_num : ℕ → List ℕ → List ℕ
with_num x [] = x ∷ []
with_num x (y ∷ ys) = if nat_lt x y then x ∷ y ∷ ys else (if x == y then y ∷ ys else y ∷ with_num x ys)

-- two rising lists as one
abbrev pub with_nums : List ℕ → List ℕ → List ℕ
with_nums [] ys = ys
with_nums (x ∷ xs) ys = with_num x (with_nums xs ys)

-- so many numbers, rising from a first one
abbrev pub numbers : ℕ → ℕ → List ℕ
numbers zero first = []
numbers (suc n) first = first ∷ numbers n (first + 1)

-- the first of the answers that is one
abbrev pub first_some : {X : Type 0} → List (Option X) → Option X
first_some [] = None
first_some (None ∷ xs) = first_some xs
first_some (Some x ∷ xs) = Some x

-- something, where a test holds
abbrev pub where_true : {X : Type 0} → Bool → X → Option X
where_true true x = Some x
where_true false x = None

abbrev pub or_else : {X : Type 0} → Option X → Option X → Option X
or_else None y = y
or_else (Some x) y = Some x

-- positions, tails and limits of 2 ^ 62 and more are passed by
abbrev pub too_far : ℕ → Bool
too_far p = nat_le (2 ^ 62) p

abbrev pub plus_one : ℕ → ℕ
plus_one n = min (n + 1) (2 ^ 64 - 1)
