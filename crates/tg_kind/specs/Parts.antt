-- What part of a state an op changes, or an ask looks at.
use Rattle.std.specs.Prelude.{ℕ, ◌/◌, ◌^◌, Bool, true, false, ◌&&◌, ◌||◌, ◌==◌, nat_lt, nat_le, length}
use Rattle.std.specs.List.{list_all}
use Rattle.std.specs.Cmp.Lexicographic.{pointwise}
use Rattle.tg_base.specs.declared.ids.Oid.{Oid}
use Rattle.tg_base.specs.declared.marks.Part.{Part}
use Rattle.tg_base.specs.declared.marks.Part.TheVariants.{All, Text, Num}
use Rattle.tg_kind.specs.declared.scope.Key.TheVariants as keys
use Rattle.tg_kind.specs.declared.scope.Scope.{Scope}
use Rattle.tg_kind.specs.declared.scope.Scope.TheVariants as scopes

-- the part that a scope names, apart from where its name lies in memory
abbrev pub part_of : Scope → Part
part_of scopes.All = All
part_of (scopes.One (keys.Text t)) = Text t.now
part_of (scopes.One (keys.Num n)) = Num n

abbrev pub is_whole : Part → Bool
is_whole All = true
is_whole _ = false

abbrev pub part_eq : Part → Part → Bool
part_eq All All = true
part_eq (Text s) (Text t) = pointwise (λ x y. x == y) s t
part_eq (Num m) (Num n) = m == n
part_eq _ _ = false

-- two parts overlap where one is the whole, or both name the same key
abbrev pub overlap : Part → Part → Bool
overlap a b = is_whole a || is_whole b || part_eq a b

-- the tag of an object's kind, which is the top byte of its number
abbrev pub tag_of : Oid → ℕ
tag_of o = o.0 / 2 ^ 24
