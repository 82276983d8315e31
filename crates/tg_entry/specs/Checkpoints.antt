-- A checkpoint: the saved state of its one stream's object, and the versions of the object's parts.
use Rattle.std.specs.Prelude.{ℕ, Bool, ◌&&◌, ◌==◌, List, [], ◌∷◌, length, Option, Some, None, if◌then◌else◌}
use Rattle.tg_base.specs.declared.ids.Oid.{Oid}
use Rattle.tg_base.specs.declared.marks.Part.{Part}
use Rattle.tg_base.specs.declared.marks.Part.TheVariants.{All}
use Rattle.tg_codec.specs.Codec.{Codec, u16, u64, dep, narrow, many, behind, text}
use Rattle.tg_codec.specs.Streams.{any, oid}
use Rattle.tg_entry.specs.declared.checkpoints.KeyBound.{KeyBound}
use Rattle.tg_entry.specs.declared.entry.Body.{Body}
use Rattle.tg_entry.specs.declared.entry.Body.TheVariants.{Commit, Decision, Checkpoint}
use Rattle.tg_entry.specs.Parts.{over, part_above}

-- A key above the one before, with a version above that of the whole and not above the object's.
abbrev pub key : KeyBound → Codec (Part × ℕ)
key s = dep (part_above s.part) (λ _. u64 (over s.whole s.version ∷ []))

abbrev pub after_key : KeyBound → Part × ℕ → KeyBound
after_key s k = record { whole = s.whole; version = s.version; part = Some k.0 }

-- keys rise, and none is the whole
abbrev pub first_key : ℕ → ℕ → KeyBound
first_key whole version = record { whole = whole; version = version; part = Some All }

unfoldable pub keys : ℕ → ℕ → Codec (List (Part × ℕ))
keys whole version = behind (u16 any) (λ n. many key after_key n (first_key whole version))

abbrev pub Ranges : Type 0
Ranges = List (ℕ × ℕ)

-- keys with their versions
abbrev pub Keyed : Type 0
Keyed = List (Part × ℕ)

-- object, upto, version, whole, keys and state
abbrev pub Fields : Type 0
Fields = Oid × (ℕ × (ℕ × (ℕ × (List (Part × ℕ) × List ℕ))))

-- keys and state
abbrev pub by_versions : ℕ → ℕ → Codec (List (Part × ℕ) × List ℕ)
by_versions version whole = dep (keys whole version) (λ _. text any)

-- the version of the whole, which is not above the object's, and what follows it
abbrev pub by_version : ℕ → Codec (ℕ × (List (Part × ℕ) × List ℕ))
by_version version = dep (u64 ((0, version) ∷ [])) (by_versions version)

abbrev pub new_rest : Codec (ℕ × (ℕ × (List (Part × ℕ) × List ℕ)))
new_rest = dep (u64 any) by_version

unfoldable pub new_fields : List (ℕ × ℕ) → Codec Fields
new_fields oids = dep (oid oids) (λ _. dep (u64 any) (λ _. new_rest))

-- format 1 has no keys, and the version of the whole is the object's
abbrev pub is_plain : Fields → Bool
is_plain f = f.1.1.1.0 == f.1.1.0 && length f.1.1.1.1.0 == 0

-- upto, version and state
abbrev pub old_rest : Codec (ℕ × (ℕ × List ℕ))
old_rest = dep (u64 any) (λ _. dep (u64 any) (λ _. text any))

abbrev pub to_fields : Oid × (ℕ × (ℕ × List ℕ)) → Fields
to_fields p = (p.0, (p.1.0, (p.1.1.0, (p.1.1.0, ([], p.1.1.1)))))

abbrev pub from_fields : Fields → Oid × (ℕ × (ℕ × List ℕ))
from_fields f = (f.0, (f.1.0, (f.1.1.0, f.1.1.1.1.1)))

unfoldable pub old_fields : List (ℕ × ℕ) → Codec Fields
old_fields oids = narrow is_plain to_fields from_fields (dep (oid oids) (λ _. old_rest))

abbrev pub fields : ℕ → List (ℕ × ℕ) → Codec Fields
fields format oids = if format == 1 then old_fields oids else new_fields oids

abbrev pub make_checkpoint : Fields → Body
make_checkpoint f = Checkpoint f.0 f.1.0 f.1.1.0 f.1.1.1.0 f.1.1.1.1.0 f.1.1.1.1.1

abbrev pub as_checkpoint : Body → Option Fields
as_checkpoint (Commit reads writes) = None
as_checkpoint (Decision at fate) = None
as_checkpoint (Checkpoint oid upto version whole keys state) = Some (oid, (upto, (version, (whole, (keys, state)))))
