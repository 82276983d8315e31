-- What is kept of versions: of each object the version of its whole, and of its parts only those that were changed
-- after it. The definitions keep every change; what is kept of them answers the same.
use Rattle.std.specs.Prelude.{◌≡◌, ℕ, ◌+◌, ◌==◌, nat_lt, List, [], ◌∷◌, filter, Option, Some, None, unwrap_or, slice_get, if◌then◌else◌}
use Rattle.std.specs.BTreeMap.{insert_entry, is_at}
use Rattle.std.specs.Map.{lookup, remove_entry}
use Rattle.tg_base.specs.Orders.{oid_cmp}
use Rattle.tg_base.specs.Parts.{part_cmp}
use Rattle.tg_base.specs.declared.ids.Oid.{Oid}
use Rattle.tg_base.specs.declared.marks.Part.{Part}
use Rattle.tg_base.specs.declared.marks.Part.TheVariants.{All, Text, Num}
use Rattle.tg_base.specs.declared.marks.ReadMark.{ReadMark}
use Rattle.tg_kind.specs.Parts.{is_whole}
use Rattle.tg_protocol.specs.Versions.{Versions, Based, PartVersion, Changed, Parts}

-- the versions of one object's parts
pub record Kept : Type 0 where
  pub version : ℕ  -- of the whole
  pub whole : ℕ  -- of each part that `keys` doesn't name
  pub keys : List (Part × ℕ)  -- rising by part, each once

-- by object, rising, each once
abbrev pub Objects : Type 0
Objects = List (Oid × Kept)

-- of an object that nothing was noted of
abbrev pub unchanged : Kept
unchanged = record { version = 0; whole = 0; keys = [] }

abbrev pub version_kept : Kept → Part → ℕ
version_kept k All = k.version
version_kept k (Text t) = unwrap_or (lookup (is_at (part_cmp (Text t))) k.keys) k.whole
version_kept k (Num n) = unwrap_or (lookup (is_at (part_cmp (Num n))) k.keys) k.whole

abbrev pub parts_kept : Kept → Parts
parts_kept k = record { whole = k.whole; keys = filter (λ (x : Part × ℕ). nat_lt k.whole x.1) k.keys }

abbrev pub kept_of : Objects → Oid → Kept
kept_of os o = unwrap_or (lookup (is_at (oid_cmp o)) os) unchanged

-- a change of the whole is one of each part
abbrev pub noted_in : Kept → Part → ℕ → Kept
noted_in k All n = record { version = n; whole = n; keys = [] }
noted_in k (Text t) n = record { version = n; whole = k.whole; keys = insert_entry part_cmp k.keys (Text t) n }
noted_in k (Num m) n = record { version = n; whole = k.whole; keys = insert_entry part_cmp k.keys (Num m) n }

-- the object is taken out, and put in with the change
unfoldable pub noted : Objects → Oid → Part → ℕ → Objects
noted os o k n = insert_entry oid_cmp (remove_entry (is_at (oid_cmp o)) os) o (noted_in (kept_of os o) k n)

-- What is kept of the definitions' versions.

-- the first version that is given of a part counts, and the whole isn't one of the parts
abbrev pub keys_kept : List (Part × ℕ) → List (Part × ℕ)
keys_kept [] = []
keys_kept (x ∷ xs) = if is_whole x.0 then keys_kept xs else insert_entry part_cmp (keys_kept xs) x.0 x.1

abbrev pub based_kept : ℕ → ℕ → List (Part × ℕ) → Kept
based_kept version whole keys = record { version = version; whole = whole; keys = keys_kept keys }

abbrev pub base_kept : Option Based → Objects
base_kept None = []
base_kept (Some b) = (b.oid, based_kept b.version b.whole b.keys) ∷ []

abbrev pub notes_kept : Option Based → List PartVersion → Objects
notes_kept b [] = base_kept b
notes_kept b (n ∷ ns) = noted (notes_kept b ns) n.oid n.part n.version

-- these versions are kept so
pub record Keeps (os : Objects) (v : Versions) : Type 0 where
  pub kept : os ≡ notes_kept v.base v.noted

-- The first read that another version is found for, by its index.

abbrev pub one_later : Option (ℕ × ℕ) → Option (ℕ × ℕ)
one_later None = None
one_later (Some x) = Some (x.0 + 1, x.1)

abbrev pub first_other : (ReadMark → ℕ) → List ReadMark → Option (ℕ × ℕ)
first_other version [] = None
first_other version (r ∷ rs) = if version r == r.version then one_later (first_other version rs) else Some (0, version r)

-- the read that an index tells, with the version that is told
abbrev pub changed_at : Option ReadMark → ℕ → Option Changed
changed_at None n = None
changed_at (Some r) n = Some (record { read = r; now = n })

abbrev pub changed_of : List ReadMark → Option (ℕ × ℕ) → Option Changed
changed_of rs None = None
changed_of rs (Some x) = changed_at (slice_get rs x.0) x.1
