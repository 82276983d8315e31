-- The directory: the objects by name, in order of registration, and how far each has been forgotten.
use Rattle.std.specs.Prelude.{ℕ, ◌-◌, ◌^◌, max, min, Bool, true, false, ◌&&◌, ◌||◌, ◌==◌, nat_lt, nat_le, List, [], ◌∷◌, ◌++◌, length, map, filter, find, fold, Option, Some, None, option_map, Result, not, if◌then◌else◌}
use Rattle.std.specs.List.{list_any}
use Rattle.std.specs.Cmp.Lexicographic.{pointwise}
use Rattle.tg_base.specs.declared.ids.Oid.{Oid}
use Rattle.tg_base.specs.declared.marks.Part.{Part}
use Rattle.tg_base.specs.declared.marks.Part.TheVariants.{All, Text}
use Rattle.tg_codec.specs.Codec.{Codec, u32, u64, dep, via, variant, tagged, many, behind, only_if}
use Rattle.tg_codec.specs.Streams.{any}
use Rattle.tg_codec.specs.Whole.{whole}
use Rattle.tg_kind.specs.Headers.{directory}
use Rattle.tg_kind.specs.Texts.{text_format}
use Rattle.tg_kind.specs.Words.{after}
use Rattle.tg_dir.specs.Spellings.{object, is_number, spelling}
use Rattle.tg_dir.specs.declared.listing.Listing.{Listing}
use Rattle.tg_dir.specs.declared.directory.DirectoryOp.{DirectoryOp}
use Rattle.tg_dir.specs.declared.directory.DirectoryOp.TheVariants.{Name, Mark}
use Rattle.tg_dir.specs.declared.directory.DirectoryAsk.{DirectoryAsk}
use Rattle.tg_dir.specs.declared.directory.DirectoryAsk.TheVariants as asks
use Rattle.tg_dir.specs.declared.directory.DirectoryAns.{DirectoryAns}
use Rattle.tg_dir.specs.declared.directory.DirectoryAns.TheVariants as answers

-- the directory is one object
abbrev pub is_object : Oid → Bool
is_object o = o.0 == 0

-- The registered objects in order, and the position below which all objects are forgotten.
pub record Listings : Type 0 where
  pub entries : List Listing
  pub floor : ℕ

-- ---- the list

abbrev pub same_text : List ℕ → List ℕ → Bool
same_text s t = pointwise (λ x y. x == y) s t

-- the text is an entry's name
abbrev pub is_name : List Listing → List ℕ → Bool
is_name entries name = list_any (λ (e : Listing). same_text e.name name) entries

-- the object is registered
abbrev pub is_listed : List Listing → Oid → Bool
is_listed entries o = list_any (λ (e : Listing). e.oid.0 == o.0) entries

-- the object of this name
abbrev pub found : List Listing → List ℕ → Option Oid
found entries name = option_map (λ (e : Listing). e.oid) (find (λ (e : Listing). same_text e.name name) entries)

-- there is no room for one more entry
abbrev pub is_full : List Listing → Bool
is_full entries = nat_le (2 ^ 32 - 1) (length entries)

abbrev pub at_first : Oid → Listing
at_first o = record { name = spelling o; oid = o; mark = 0 }

-- the directory, then each of the header's objects, with its own spelling as name and mark 0
abbrev pub first : Oid → List Oid → Listings
first o os = record { entries = map at_first (directory ∷ filter is_number os); floor = 0 }

-- ---- ops

-- the new entry goes last, where neither its name nor its object is taken
abbrev pub named : List Listing → List ℕ → Oid → List Listing
named entries name o =
    if is_name entries name || is_listed entries o || is_full entries then entries else entries ++ record { name = name; oid = o; mark = 0 } ∷ []

-- the object is registered, and its mark is below this one
abbrev pub is_raised : List Listing → Oid → ℕ → Bool
is_raised entries o mark = list_any (λ (e : Listing). e.oid.0 == o.0 && nat_lt e.mark mark) entries

abbrev pub with_mark : Oid → ℕ → Listing → Listing
with_mark o mark e = record e { mark = if e.oid.0 == o.0 then mark else e.mark }

abbrev pub least_mark : List Listing → ℕ
least_mark entries = fold (λ least (e : Listing). min least e.mark) (2 ^ 64 - 1) entries

-- the floor rises to the least mark, and never falls
abbrev pub risen : ℕ → List Listing → Listings
risen floor entries = record { entries = entries; floor = max floor (least_mark entries) }

abbrev pub marked : Listings → Oid → ℕ → Listings
marked s o mark = if is_raised s.entries o mark then risen s.floor (map (with_mark o mark) s.entries) else s

abbrev pub applied : Listings → DirectoryOp → Listings
applied s (Name name o) = record s { entries = named s.entries name o }
applied s (Mark o mark) = marked s o mark

abbrev pub is_of : Oid → DirectoryOp → Bool
is_of o op = is_object o

-- ---- asks

abbrev pub marks : List Listing → List (Oid × ℕ)
marks entries = map (λ (e : Listing). (e.oid, e.mark)) entries

abbrev pub answered : Listings → DirectoryAsk → DirectoryAns
answered s (asks.Find name) = answers.Found (found s.entries name)
answered s asks.Marks = answers.Marks (marks s.entries)
answered s asks.Floor = answers.Floor s.floor

-- a name changes what stands under it alone, and a mark may change the floor
abbrev pub touched : DirectoryOp → Part
touched (Name name o) = Text name
touched (Mark o mark) = All

abbrev pub looked : DirectoryAsk → Part
looked (asks.Find name) = Text name
looked asks.Marks = All
looked asks.Floor = All

-- ---- bytes

-- a name that no entry before has
abbrev pub new_name : List Listing → Codec (List ℕ)
new_name before = only_if (λ name. not (is_name before name)) text_format

-- an object that no entry before has
abbrev pub new_object : List Listing → Codec Oid
new_object before = only_if (λ o. not (is_listed before o)) object

-- a new name, a new object and a mark
abbrev pub listing : List Listing → Codec Listing
listing before =
    via (λ p. record { name = p.0; oid = p.1.0; mark = p.1.1 }) (λ (e : Listing). (e.name, (e.oid, e.mark)))
    (dep (new_name before) (λ _. dep (new_object before) (λ _. u64 any)))

abbrev pub after_listing : List Listing → Listing → List Listing
after_listing before e = before ++ e ∷ []

-- the entries behind their count, and the floor
abbrev pub listings : Codec Listings
listings =
    via (λ p. record { entries = p.0; floor = p.1 }) (λ (s : Listings). (s.entries, s.floor))
    (dep (behind (u32 any) (λ n. many listing after_listing n [])) (λ _. u64 any))

-- the kind's tag and the state
unfoldable pub state_format : Codec Listings
state_format = after 0 listings

abbrev pub is_state : Oid → Listings → Bool
is_state o s = is_object o && state_format.fits s

abbrev pub saved : Listings → List ℕ
saved s = state_format.spell s

abbrev pub loaded : Oid → List ℕ → Result Listings ℕ
loaded o bytes = whole state_format bytes

abbrev pub code_of : DirectoryOp → ℕ
code_of (Name name o) = 1
code_of (Mark o mark) = 2

abbrev pub as_name : DirectoryOp → Option (List ℕ × Oid)
as_name (Name name o) = Some (name, o)
as_name (Mark o mark) = None

abbrev pub as_mark : DirectoryOp → Option (Oid × ℕ)
as_mark (Name name o) = None
as_mark (Mark o mark) = Some (o, mark)

-- a name and an object
abbrev pub name_format : Codec DirectoryOp
name_format = variant (λ p. Name p.0 p.1) as_name (dep text_format (λ _. object))

-- an object and a mark
abbrev pub mark_format : Codec DirectoryOp
mark_format = variant (λ p. Mark p.0 p.1) as_mark (dep object (λ _. u64 any))

abbrev pub op_body : ℕ → Codec DirectoryOp
op_body code = if code == 1 then name_format else mark_format

-- the op's code and its fields
unfoldable pub op_format : Codec DirectoryOp
op_format = tagged ((1, 2) ∷ []) code_of op_body

-- ---- what a user may put and ask

abbrev pub is_mark : DirectoryOp → Bool
is_mark (Name name o) = false
is_mark (Mark o mark) = true

abbrev pub allowed : Oid → DirectoryOp → Bool
allowed o op = is_object o && not (is_mark op)

abbrev pub allowed_ask : Oid → DirectoryAsk → Bool
allowed_ask o ask = is_object o

abbrev pub lists : Listings → Oid → Bool
lists s o = is_listed s.entries o

abbrev pub floor_of : Listings → ℕ
floor_of s = s.floor

-- the mark of an object; of a number that is no object's there is none, and its mark changes nothing
abbrev pub marking : Oid → ℕ → DirectoryOp
marking o mark = if is_number o then Mark o mark else Mark directory 0
