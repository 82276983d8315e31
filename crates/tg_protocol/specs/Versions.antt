-- Versions of the parts of objects: one past the position of the last committed change of that part.
use Rattle.std.specs.Prelude.{ℕ, ◌+◌, not, ◌&&◌, ◌==◌, nat_lt, List, [], ◌∷◌, filter, map, Option, Some, None, if◌then◌else◌}
use Rattle.tg_base.specs.declared.ids.Oid.{Oid}
use Rattle.tg_base.specs.declared.marks.Part.{Part}
use Rattle.tg_base.specs.declared.marks.Part.TheVariants.{All, Text, Num}
use Rattle.tg_base.specs.declared.marks.ReadMark.{ReadMark}
use Rattle.tg_protocol.specs.Words.{part_lt}
use Rattle.tg_kind.specs.Parts.{part_eq, is_whole, overlap}
use Rattle.tg_base.specs.Orders.{oid_eq}

-- the versions of one object that a checkpoint tells
pub record Based : Type 0 where
  pub oid : Oid
  pub version : ℕ  -- of the whole
  pub whole : ℕ  -- of each part that `keys` doesn't name
  pub keys : List (Part × ℕ)

-- a change that was noted
pub record PartVersion : Type 0 where
  pub oid : Oid
  pub part : Part
  pub version : ℕ

pub record Versions : Type 0 where
  pub base : Option Based
  pub noted : List PartVersion  -- the last one first

unfoldable pub no_versions : Versions
no_versions = record { base = None; noted = [] }

unfoldable pub based : Oid → ℕ → ℕ → List (Part × ℕ) → Versions
based o version whole keys = record { base = Some (record { oid = o; version = version; whole = whole; keys = keys }); noted = [] }

abbrev pub key_version : Part → ℕ → List (Part × ℕ) → ℕ
key_version k whole [] = whole
key_version k whole (x ∷ xs) = if part_eq k x.0 then x.1 else key_version k whole xs

abbrev pub version_in : Based → Part → ℕ
version_in b All = b.version
version_in b (Text t) = key_version (Text t) b.whole b.keys
version_in b (Num n) = key_version (Num n) b.whole b.keys

abbrev pub base_version : Option Based → Oid → Part → ℕ
base_version None o k = 0
base_version (Some b) o k = if oid_eq b.oid o then version_in b k else 0

-- the version noted last with a part that overlaps this one, else the base's
abbrev pub noted_or : Option Based → List PartVersion → Oid → Part → ℕ
noted_or b [] o k = base_version b o k
noted_or b (n ∷ ns) o k = if oid_eq n.oid o && overlap n.part k then n.version else noted_or b ns o k

unfoldable pub version_of : Versions → Oid → Part → ℕ
version_of v o k = noted_or v.base v.noted o k

-- a change at a position makes the next one its version
unfoldable pub with_change : Versions → Oid → Part → ℕ → Versions
with_change v o k pos = record v { noted = record { oid = o; part = k; version = pos + 1 } ∷ v.noted }

-- the first read that another version is found for, with that version
pub record Changed : Type 0 where
  pub read : ReadMark
  pub now : ℕ

abbrev pub first_changed : (ReadMark → ℕ) → List ReadMark → Option Changed
first_changed version [] = None
first_changed version (r ∷ rs) = if version r == r.version then first_changed version rs else Some (record { read = r; now = version r })

-- What a checkpoint tells.

abbrev pub whole_noted : Option Based → List PartVersion → Oid → ℕ
whole_noted None [] o = 0
whole_noted (Some b) [] o = if oid_eq b.oid o then b.whole else 0
whole_noted b (n ∷ ns) o = if oid_eq n.oid o && is_whole n.part then n.version else whole_noted b ns o

abbrev pub with_part : Part → List Part → List Part
with_part k [] = k ∷ []
with_part k (x ∷ xs) = if part_lt k x then k ∷ x ∷ xs else (if part_eq k x then x ∷ xs else x ∷ with_part k xs)

abbrev pub parts_noted : List PartVersion → Oid → List Part → List Part
parts_noted [] o ks = ks
parts_noted (n ∷ ns) o ks = if oid_eq n.oid o && not (is_whole n.part) then with_part n.part (parts_noted ns o ks) else parts_noted ns o ks

-- a key that names the whole says nothing
abbrev pub parts_based : List (Part × ℕ) → List Part
parts_based [] = []
parts_based (x ∷ xs) = if is_whole x.0 then parts_based xs else with_part x.0 (parts_based xs)

abbrev pub base_parts : Option Based → Oid → List Part
base_parts None o = []
base_parts (Some b) o = if oid_eq b.oid o then parts_based b.keys else []

-- the parts of an object that were changed after its whole, each with its version
pub record Parts : Type 0 where
  pub whole : ℕ
  pub keys : List (Part × ℕ)

abbrev pub keyed : Versions → Oid → Part → Part × ℕ
keyed v o k = (k, version_of v o k)

unfoldable pub parts_of : Versions → Oid → Parts
parts_of v o = record {
  whole = whole_noted v.base v.noted o;
  keys = filter (λ (x : Part × ℕ). nat_lt (whole_noted v.base v.noted o) x.1) (map (keyed v o) (parts_noted v.noted o (base_parts v.base o)));
}
