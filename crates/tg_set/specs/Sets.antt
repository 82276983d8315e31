-- Sets of numbers.
use Rattle.std.specs.Prelude.{ℕ, Bool, true, ◌&&◌, ◌||◌, ◌==◌, nat_le, nat_lt, List, [], ◌∷◌, length, filter, Option, Some, None, Result, if◌then◌else◌}
use Rattle.std.specs.List.{list_any}
use Rattle.std.specs.Ordering.{nat_cmp}
use Rattle.std.specs.BTreeMap.{is_at}
use Rattle.std.specs.BTreeSet.{insert_key}
use Rattle.std.specs.Set.{remove_key}
use Rattle.tg_base.specs.declared.ids.Oid.{Oid}
use Rattle.tg_base.specs.declared.marks.Part.{Part}
use Rattle.tg_base.specs.declared.marks.Part.TheVariants.{All, Num}
use Rattle.tg_codec.specs.Codec.{Codec, u32, u64, many, behind, only_if, variant, tagged}
use Rattle.tg_codec.specs.Streams.{any}
use Rattle.tg_codec.specs.Whole.{whole}
use Rattle.tg_kind.specs.Parts.{tag_of}
use Rattle.tg_kind.specs.Words.{after}
use Rattle.tg_set.specs.declared.set.SetOp.{SetOp}
use Rattle.tg_set.specs.declared.set.SetOp.TheVariants.{Include, Exclude}
use Rattle.tg_set.specs.declared.set.SetAsk.{SetAsk}
use Rattle.tg_set.specs.declared.set.SetAsk.TheVariants.{Member, Count, Between}
use Rattle.tg_set.specs.declared.set.SetAns.{SetAns}
use Rattle.tg_set.specs.declared.set.SetAns.TheVariants as answers

abbrev pub is_object : Oid → Bool
is_object o = tag_of o == 6

-- the numbers of a set, rising
abbrev pub Numbers : Type 0
Numbers = List ℕ

abbrev pub has : Numbers → ℕ → Bool
has numbers n = list_any (is_at (nat_cmp n)) numbers

-- the most numbers that a set has
abbrev pub most : ℕ
most = 4294967295

-- a set takes each number while there is room, and then those that it has
abbrev pub takes : Numbers → ℕ → Bool
takes numbers n = nat_lt (length numbers) most || has numbers n

-- the number stands at its place in the order; a full set takes no new number
abbrev pub with_number : Numbers → ℕ → Numbers
with_number numbers n = if takes numbers n then insert_key nat_cmp numbers n else numbers

-- the number goes
abbrev pub without_number : Numbers → ℕ → Numbers
without_number numbers n = remove_key (is_at (nat_cmp n)) numbers

-- the numbers from low on that are below high
abbrev pub between : Numbers → ℕ → ℕ → Numbers
between numbers low high = filter (λ n. nat_le low n && nat_lt n high) numbers

-- a number above the one before it
abbrev pub rises : Option ℕ → ℕ → Bool
rises None n = true
rises (Some last) n = nat_lt last n

abbrev pub number_format : Option ℕ → Codec ℕ
number_format last = only_if (rises last) (u64 any)

abbrev pub after_number : Option ℕ → ℕ → Option ℕ
after_number last n = Some n

-- the kind's tag, and the numbers behind their count, which rise
unfoldable pub state_format : Codec Numbers
state_format = after 6 (behind (u32 any) (λ n. many number_format after_number n None))

abbrev pub is_state : Oid → Numbers → Bool
is_state o numbers = is_object o && state_format.fits numbers

abbrev pub is_of : Oid → SetOp → Bool
is_of o op = is_object o

abbrev pub first : Oid → List Oid → Numbers
first o os = []

abbrev pub applied : Numbers → SetOp → Numbers
applied numbers (Include n) = with_number numbers n
applied numbers (Exclude n) = without_number numbers n

abbrev pub answered : Numbers → SetAsk → SetAns
answered numbers (Member n) = answers.Member (has numbers n)
answered numbers (Count low high) = answers.Count (length (between numbers low high))
answered numbers (Between low high) = answers.Numbers (between numbers low high)

abbrev pub touched : SetOp → Part
touched (Include n) = Num n
touched (Exclude n) = Num n

abbrev pub looked : SetAsk → Part
looked (Member n) = Num n
looked (Count low high) = All
looked (Between low high) = All

abbrev pub saved : Numbers → List ℕ
saved numbers = state_format.spell numbers

abbrev pub loaded : Oid → List ℕ → Result Numbers ℕ
loaded o bytes = whole state_format bytes

-- the code of an op, and then the number

abbrev pub op_code : SetOp → ℕ
op_code (Include n) = 0x60
op_code (Exclude n) = 0x61

abbrev pub as_include : SetOp → Option ℕ
as_include (Include n) = Some n
as_include (Exclude n) = None

abbrev pub as_exclude : SetOp → Option ℕ
as_exclude (Include n) = None
as_exclude (Exclude n) = Some n

abbrev pub include_format : Codec SetOp
include_format = variant Include as_include (u64 any)

abbrev pub exclude_format : Codec SetOp
exclude_format = variant Exclude as_exclude (u64 any)

unfoldable pub op_format : Codec SetOp
op_format = tagged ((0x60, 0x61) ∷ []) op_code (λ code. if code == 0x60 then include_format else exclude_format)
