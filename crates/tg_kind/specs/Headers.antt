-- The objects of a header, which the directory lists at first.
use Rattle.std.specs.Prelude.{Bool, true, ◌&&◌, ◌==◌, not, nat_le, List, [], ◌∷◌, length}
use Rattle.std.specs.List.{list_any}
use Rattle.tg_base.specs.declared.ids.Oid.{Oid}

abbrev pub directory : Oid
directory = record { 0 = 0 }

abbrev pub names : Oid → List Oid → Bool
names o os = list_any (λ (p : Oid). p.0 == o.0) os

abbrev pub distinct : List Oid → Bool
distinct [] = true
distinct (o ∷ os) = not (names o os) && distinct os

-- at most 256 objects, distinct and without the directory
abbrev pub is_header : List Oid → Bool
is_header os = nat_le (length os) 256 && distinct os && not (names directory os)
