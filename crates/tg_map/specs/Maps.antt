-- Maps.
use Rattle.std.specs.Prelude.{ℕ, Bool, ◌&&◌, ◌||◌, ◌==◌, not, nat_eq, nat_lt, List, [], ◌∷◌, ◌++◌, length, Option, Some, None, Result, if◌then◌else◌}
use Rattle.std.specs.List.{list_any}
use Rattle.std.specs.Map.{keys_of, lookup, remove_entry}
use Rattle.std.specs.Cmp.Lexicographic.{pointwise}
use Rattle.indexmap.specs.IndexMap.{insert_entry}
use Rattle.tg_base.specs.declared.ids.Oid.{Oid}
use Rattle.tg_base.specs.declared.marks.Part.{Part}
use Rattle.tg_base.specs.declared.marks.Part.TheVariants.{All, Text}
use Rattle.tg_codec.specs.Codec.{Codec, u32, dep, many, behind, only_if, variant, tagged}
use Rattle.tg_codec.specs.Streams.{any}
use Rattle.tg_codec.specs.Whole.{whole}
use Rattle.tg_kind.specs.Parts.{tag_of}
use Rattle.tg_kind.specs.Words.{after}
use Rattle.tg_kind.specs.Texts.{text_format}
use Rattle.tg_map.specs.declared.map.MapOp.{MapOp}
use Rattle.tg_map.specs.declared.map.MapOp.TheVariants.{Set, Unset}
use Rattle.tg_map.specs.declared.map.MapAsk.{MapAsk}
use Rattle.tg_map.specs.declared.map.MapAsk.TheVariants.{Get, Size, Keys}
use Rattle.tg_map.specs.declared.map.MapAns.{MapAns}
use Rattle.tg_map.specs.declared.map.MapAns.TheVariants as answers

abbrev pub is_object : Oid → Bool
is_object o = tag_of o == 3

-- the pairs of a key and its value, in order
abbrev pub Pairs : Type 0
Pairs = List (List ℕ × List ℕ)

-- two texts have the same bytes
abbrev pub same : List ℕ → List ℕ → Bool
same s t = pointwise nat_eq s t

-- the key is one of these
abbrev pub has_key : List (List ℕ) → List ℕ → Bool
has_key keys key = list_any (same key) keys

-- the most pairs that a map has
abbrev pub most : ℕ
most = 4294967295

-- a map takes each key while there is room, and then those that it has
abbrev pub takes : Pairs → List ℕ → Bool
takes pairs key = nat_lt (length pairs) most || has_key (keys_of pairs) key

-- a key that is there keeps its place and gets the value, and a new key goes last; a full map takes no new key
abbrev pub set_pair : Pairs → List ℕ → List ℕ → Pairs
set_pair pairs key value = if takes pairs key then insert_entry same pairs key value else pairs

-- the pair goes, the others keep their order
abbrev pub unset_pair : Pairs → List ℕ → Pairs
unset_pair pairs key = remove_entry (same key) pairs

abbrev pub value_of : Pairs → List ℕ → Option (List ℕ)
value_of pairs key = lookup (same key) pairs

-- a key that isn't among those before it
abbrev pub new_key : List (List ℕ) → Codec (List ℕ)
new_key keys = only_if (λ key. not (has_key keys key)) text_format

abbrev pub pair : List (List ℕ) → Codec (List ℕ × List ℕ)
pair keys = dep (new_key keys) (λ _. text_format)

abbrev pub after_pair : List (List ℕ) → List ℕ × List ℕ → List (List ℕ)
after_pair keys p = keys ++ p.0 ∷ []

-- the kind's tag, and the pairs behind their count, whose keys differ
unfoldable pub state_format : Codec Pairs
state_format = after 3 (behind (u32 any) (λ n. many pair after_pair n []))

abbrev pub is_state : Oid → Pairs → Bool
is_state o pairs = is_object o && state_format.fits pairs

abbrev pub is_of : Oid → MapOp → Bool
is_of o op = is_object o

abbrev pub first : Oid → List Oid → Pairs
first o os = []

abbrev pub applied : Pairs → MapOp → Pairs
applied pairs (Set key value) = set_pair pairs key value
applied pairs (Unset key) = unset_pair pairs key

abbrev pub answered : Pairs → MapAsk → MapAns
answered pairs (Get key) = answers.Value (value_of pairs key)
answered pairs Size = answers.Number (length pairs)
answered pairs Keys = answers.Keys (keys_of pairs)

abbrev pub touched : MapOp → Part
touched (Set key value) = Text key
touched (Unset key) = Text key

abbrev pub looked : MapAsk → Part
looked (Get key) = Text key
looked Size = All
looked Keys = All

abbrev pub saved : Pairs → List ℕ
saved pairs = state_format.spell pairs

abbrev pub loaded : Oid → List ℕ → Result Pairs ℕ
loaded o bytes = whole state_format bytes

-- the code of an op, and then its fields

abbrev pub op_code : MapOp → ℕ
op_code (Set key value) = 0x30
op_code (Unset key) = 0x31

abbrev pub as_set : MapOp → Option (List ℕ × List ℕ)
as_set (Set key value) = Some (key, value)
as_set (Unset key) = None

abbrev pub as_unset : MapOp → Option (List ℕ)
as_unset (Set key value) = None
as_unset (Unset key) = Some key

abbrev pub set_format : Codec MapOp
set_format = variant (λ p. Set p.0 p.1) as_set (dep text_format (λ _. text_format))

abbrev pub unset_format : Codec MapOp
unset_format = variant Unset as_unset text_format

unfoldable pub op_format : Codec MapOp
op_format = tagged ((0x30, 0x31) ∷ []) op_code (λ code. if code == 0x30 then set_format else unset_format)
