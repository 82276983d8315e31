-- The words of objects: the kind's name and the index, as `map3`.
use Rattle.std.specs.Prelude.{ℕ, ◌+◌, ◌*◌, ◌%◌, ◌^◌, Bool, ◌==◌, nat_lt, nat_le, List, ◌++◌, codes, length, Option, Some, None, if◌then◌else◌}
use Rattle.std.specs.Fmt.{decimal}
use Rattle.tg_base.specs.declared.ids.Oid.{Oid}
use Rattle.tg_kind.specs.Parts.{tag_of}
use Rattle.tg_any.specs.Decimals.{number_in, number_at}
use Rattle.tg_any.specs.Fronts.{◌>>=◌, after, or_else}

-- by the tag of a kind
abbrev pub kind_name : ℕ → List ℕ
kind_name t =
    if t == 0 then codes "dir" else (if t == 1 then codes "ctr" else (if t == 2 then codes "reg"
    else (if t == 3 then codes "map" else (if t == 4 then codes "list" else (if t == 5 then codes "tree" else codes "set")))))

-- an object's number has the tag of a kind above its index, and the directory is the only one of its kind
abbrev pub is_named : Oid → Bool
is_named o = if tag_of o == 0 then o.0 == 0 else nat_le (tag_of o) 6

abbrev pub object_word : Oid → List ℕ
object_word o = kind_name (tag_of o) ++ decimal (o.0 % 2 ^ 24)

-- an object of a kind, whose index is below a limit, after the kind's name
unfoldable pub numbered : ℕ → ℕ → List ℕ → Option (Oid × List ℕ)
numbered tag limit text = number_at text >>= λ x. if nat_lt x.0 limit then Some (record { 0 = tag * 2 ^ 24 + x.0 }, x.1) else None

-- the object at the front, and what follows it
unfoldable pub object_at : List ℕ → Option (Oid × List ℕ)
object_at text =
    or_else (after (codes "dir") text) (numbered 0 1) (or_else (after (codes "ctr") text) (numbered 1 (2 ^ 24)) (or_else (after (codes "reg") text) (numbered 2 (2 ^ 24))
    (or_else (after (codes "map") text) (numbered 3 (2 ^ 24)) (or_else (after (codes "list") text) (numbered 4 (2 ^ 24))
    (or_else (after (codes "tree") text) (numbered 5 (2 ^ 24)) (or_else (after (codes "set") text) (numbered 6 (2 ^ 24)) None))))))

-- the object whose word this is
unfoldable pub object_in : List ℕ → Option Oid
object_in word = object_at word >>= λ x. if length x.1 == 0 then Some x.0 else None

-- an object and its mark, as `map3=17`
abbrev pub mark_word : Oid × ℕ → List ℕ
mark_word m = object_word m.0 ++ codes "=" ++ decimal m.1

unfoldable pub mark_in : List ℕ → Option (Oid × ℕ)
mark_in word = object_at word >>= λ x. after (codes "=") x.1 >>= λ rest. number_in rest >>= λ n. Some (x.0, n)
