-- Lists of texts.
use Rattle.std.specs.Prelude.{ℕ, ◌-◌, Bool, true, false, ◌&&◌, ◌==◌, nat_lt, nat_le, List, [], ◌∷◌, ◌++◌, length, take, drop, insert, remove, slice_get, Option, Some, None, Result, if◌then◌else◌}
use Rattle.std.specs.List.{list_all}
use Rattle.tg_base.specs.declared.ids.Oid.{Oid}
use Rattle.tg_base.specs.declared.marks.Part.{Part}
use Rattle.tg_base.specs.declared.marks.Part.TheVariants.{All}
use Rattle.tg_codec.specs.Codec.{Codec, u32, dep, many, behind, nothing, variant, tagged, from_table}
use Rattle.tg_codec.specs.Streams.{any}
use Rattle.tg_codec.specs.Whole.{whole}
use Rattle.tg_kind.specs.Parts.{tag_of}
use Rattle.tg_kind.specs.Texts.{text_format}
use Rattle.tg_kind.specs.Words.{after}
use Rattle.tg_list.specs.declared.text_list.TextListOp.{TextListOp}
use Rattle.tg_list.specs.declared.text_list.TextListOp.TheVariants.{PushFront, PushBack, Insert, Remove, PopFront, PopBack}
use Rattle.tg_list.specs.declared.text_list.TextListAsk.{TextListAsk}
use Rattle.tg_list.specs.declared.text_list.TextListAsk.TheVariants as asks
use Rattle.tg_list.specs.declared.text_list.TextListAns.{TextListAns}
use Rattle.tg_list.specs.declared.text_list.TextListAns.TheVariants as answers

-- What a list is.

abbrev pub is_object : Oid → Bool
is_object o = tag_of o == 4

abbrev pub Texts : Type 0
Texts = List (List ℕ)

-- how many texts a list has at most
abbrev pub most : ℕ
most = 4294967295

abbrev pub is_list : Texts → Bool
is_list texts = nat_le (length texts) most && list_all text_format.fits texts

abbrev pub is_state : Oid → Texts → Bool
is_state o texts = is_object o && is_list texts

abbrev pub first : Oid → List Oid → Texts
first o os = []

-- What ops change.

abbrev pub is_of : Oid → TextListOp → Bool
is_of o op = is_object o

-- one text more makes no more than the most
abbrev pub has_room : Texts → Bool
has_room texts = nat_lt (length texts) most

-- a full list stays as it is
abbrev pub put_front : Texts → List ℕ → Texts
put_front texts text = if has_room texts then text ∷ texts else texts

abbrev pub put_back : Texts → List ℕ → Texts
put_back texts text = if has_room texts then texts ++ text ∷ [] else texts

-- a text may come to each place up to the length
abbrev pub has_place : Texts → ℕ → Bool
has_place texts at = nat_le at (length texts) && has_room texts

abbrev pub put_at : Texts → ℕ → List ℕ → Texts
put_at texts at text = if has_place texts at then insert texts at text else texts

abbrev pub take_out : Texts → ℕ → Texts
take_out texts at = if nat_lt at (length texts) then remove texts at else texts

-- nothing can be taken out of an empty list
abbrev pub without_first : Texts → Texts
without_first texts = drop 1 texts

abbrev pub without_last : Texts → Texts
without_last texts = take (length texts - 1) texts

abbrev pub applied : Texts → TextListOp → Texts
applied texts (PushFront text) = put_front texts text
applied texts (PushBack text) = put_back texts text
applied texts (Insert at text) = put_at texts at text
applied texts (Remove at) = take_out texts at
applied texts PopFront = without_first texts
applied texts PopBack = without_last texts

-- the op puts a text in, which takes memory
abbrev pub puts_in : Texts → TextListOp → Bool
puts_in texts (PushFront text) = has_room texts
puts_in texts (PushBack text) = has_room texts
puts_in texts (Insert at text) = has_place texts at
puts_in texts other = false

-- the op's fields have no text
abbrev pub is_plain : TextListOp → Bool
is_plain (Remove at) = true
is_plain PopFront = true
is_plain PopBack = true
is_plain other = false

abbrev pub touched : TextListOp → Part
touched op = All

-- What asks are answered.

abbrev pub answered : Texts → TextListAsk → TextListAns
answered texts (asks.At at) = answers.Item (slice_get texts at)
answered texts asks.Len = answers.Number (length texts)
answered texts asks.Items = answers.Items texts

abbrev pub looked : TextListAsk → Part
looked ask = All

-- How a list is saved.

-- each text is spelled alike, whatever stands before it
abbrev pub item : Unit {0} → Codec (List ℕ)
item _ = text_format

abbrev pub onward : Unit {0} → List ℕ → Unit {0}
onward _ text = tt

-- how many texts there are, in four bytes, and the texts
abbrev pub texts_format : Codec Texts
texts_format = behind (u32 any) (λ n. many item onward n tt)

-- the kind's tag and the texts
unfoldable pub state_format : Codec Texts
state_format = after 4 texts_format

abbrev pub saved : Texts → List ℕ
saved texts = state_format.spell texts

abbrev pub loaded : Oid → List ℕ → Result Texts ℕ
loaded o bytes = whole state_format bytes

-- How ops are spelled.

abbrev pub code : TextListOp → ℕ
code (PushFront text) = 0x40
code (PushBack text) = 0x41
code (Insert at text) = 0x42
code (Remove at) = 0x43
code PopFront = 0x44
code PopBack = 0x45

abbrev pub codes : List (ℕ × ℕ)
codes = (0x40, 0x45) ∷ []

abbrev pub as_push_front : TextListOp → Option (List ℕ)
as_push_front (PushFront text) = Some text
as_push_front other = None

abbrev pub as_push_back : TextListOp → Option (List ℕ)
as_push_back (PushBack text) = Some text
as_push_back other = None

abbrev pub as_insert : TextListOp → Option (ℕ × List ℕ)
as_insert (Insert at text) = Some (at, text)
as_insert other = None

abbrev pub as_remove : TextListOp → Option ℕ
as_remove (Remove at) = Some at
as_remove other = None

abbrev pub as_pop_front : TextListOp → Option (Unit {0})
as_pop_front PopFront = Some tt
as_pop_front other = None

abbrev pub as_pop_back : TextListOp → Option (Unit {0})
as_pop_back PopBack = Some tt
as_pop_back other = None

-- a place in four bytes
abbrev pub place : Codec ℕ
place = u32 any

-- what follows the code of each op
abbrev pub push_front_op : Codec TextListOp
push_front_op = variant PushFront as_push_front text_format

abbrev pub push_back_op : Codec TextListOp
push_back_op = variant PushBack as_push_back text_format

abbrev pub insert_op : Codec TextListOp
insert_op = variant (λ p. Insert p.0 p.1) as_insert (dep place (λ _. text_format))

abbrev pub remove_op : Codec TextListOp
remove_op = variant Remove as_remove place

abbrev pub pop_front_op : Codec TextListOp
pop_front_op = variant (λ _. PopFront) as_pop_front nothing

abbrev pub pop_back_op : Codec TextListOp
pop_back_op = variant (λ _. PopBack) as_pop_back nothing

abbrev pub ops : List (ℕ × Codec TextListOp)
ops = (0x40, push_front_op) ∷ (0x41, push_back_op) ∷ (0x42, insert_op) ∷ (0x43, remove_op) ∷ (0x44, pop_front_op) ∷ (0x45, pop_back_op) ∷ []

-- the op's code and its fields
unfoldable pub op_format : Codec TextListOp
op_format = tagged codes code (from_table ops)
