-- Parts of objects: which there are, and their order.
use Rattle.std.specs.Prelude.{◌^◌, Bool, true, ◌&&◌, nat_lt, length}
use Rattle.std.specs.List.{list_all}
use Rattle.std.specs.Ordering.{nat_cmp}
use Rattle.std.specs.declared.cmp.Ordering.{Ordering}
use Rattle.std.specs.declared.cmp.Ordering.TheVariants.{Less, Equal, Greater}
use Rattle.std.specs.Cmp.Lexicographic.{slice_cmp}
use Rattle.tg_base.specs.Units.{is_within}
use Rattle.tg_base.specs.declared.marks.Part.{Part}
use Rattle.tg_base.specs.declared.marks.Part.TheVariants.{All, Text, Num}

-- a text of 1 to 4,096 bytes, or a number of 64 bits, or the whole
abbrev pub is_part : Part → Bool
is_part All = true
is_part (Text t) = is_within 1 4096 (length t) && list_all (λ b. nat_lt b 256) t
is_part (Num n) = nat_lt n (2 ^ 64)

-- the whole, then the texts by their bytes, then the numbers
abbrev pub part_cmp : Part → Part → Ordering
part_cmp All All = Equal
part_cmp All (Text t) = Less
part_cmp All (Num n) = Less
part_cmp (Text s) All = Greater
part_cmp (Text s) (Text t) = slice_cmp nat_cmp s t
part_cmp (Text s) (Num n) = Less
part_cmp (Num m) All = Greater
part_cmp (Num m) (Text t) = Greater
part_cmp (Num m) (Num n) = nat_cmp m n
