-- Objects' numbers, and how they are spelled in words.
use Rattle.std.specs.Prelude.{ℕ, ◌%◌, ◌^◌, Bool, ◌==◌, List, ◌++◌, codes, if◌then◌else◌}
use Rattle.std.specs.Fmt.{decimal}
use Rattle.tg_base.specs.declared.ids.Oid.{Oid}
use Rattle.tg_codec.specs.Codec.{Codec}
use Rattle.tg_codec.specs.Streams.{oid, oids_from}
use Rattle.tg_kind.specs.Parts.{tag_of}

-- An object's number in four bytes: 0 for the directory, or a kind's tag from 1 to 6 in the top byte and any
-- index below.
abbrev pub object : Codec Oid
object = oid (oids_from 0)

-- the number is an object's
abbrev pub is_number : Oid → Bool
is_number o = object.fits o

abbrev pub index_of : Oid → ℕ
index_of o = o.0 % 2 ^ 24

-- the name of the kind with this tag
abbrev pub kind_name : ℕ → List ℕ
kind_name tag =
    if tag == 0 then codes "dir" else (if tag == 1 then codes "ctr" else (if tag == 2 then codes "reg" else (if tag == 3 then codes "map" else (if tag == 4 then codes "list" else (if tag == 5 then codes "tree" else codes "set")))))

-- the kind's name and the index, as in `map3`
abbrev pub spelling : Oid → List ℕ
spelling o = kind_name (tag_of o) ++ decimal (index_of o)
