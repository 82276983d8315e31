-- The reads of a commit record: of parts, and of whole objects in format 1.
use Rattle.std.specs.Prelude.{ℕ, ◌+◌, ◌==◌, Bool, true, false, List, [], ◌∷◌, Option, Some, None, if◌then◌else◌}
use Rattle.tg_base.specs.declared.ids.Oid.{Oid}
use Rattle.tg_base.specs.declared.marks.Part.{Part}
use Rattle.tg_base.specs.declared.marks.Part.TheVariants.{All, Text, Num}
use Rattle.tg_base.specs.declared.marks.ReadMark.{ReadMark}
use Rattle.tg_codec.specs.Codec.{Codec, u64, dep, via, narrow, many, counted}
use Rattle.tg_codec.specs.Streams.{any, oids_from, oid}
use Rattle.tg_entry.specs.declared.reads.LastRead.{LastRead}
use Rattle.tg_entry.specs.Parts.{part_above}

abbrev pub no_read : LastRead
no_read = record { oid = 0; part = None }

-- the part that the next read's is above: that of the same object
abbrev pub bound_of : LastRead → Oid → Option Part
bound_of last o = if last.oid == o.0 then last.part else None

-- Reads rise by object and then part. The object alone may be that of the read before.
abbrev pub mark : LastRead → Codec ReadMark
mark last =
    via (λ p. record { oid = p.0; part = p.1.0; version = p.1.1 }) (λ m. (m.oid, (m.part, m.version)))
    (dep (oid (oids_from last.oid)) (λ o. dep (part_above (bound_of last o)) (λ _. u64 any)))

abbrev pub after_mark : LastRead → ReadMark → LastRead
after_mark last m = record { oid = m.oid.0; part = Some m.part }

abbrev pub is_all : Part → Bool
is_all All = true
is_all (Text t) = false
is_all (Num n) = false

-- a read of a whole object that is low at least
abbrev pub old_mark : ℕ → Codec ReadMark
old_mark low =
    narrow (λ m. is_all m.part) (λ p. record { oid = p.0; part = All; version = p.1 }) (λ m. (m.oid, m.version))
    (dep (oid (oids_from low)) (λ _. u64 any))

abbrev pub after_old_mark : ℕ → ReadMark → ℕ
after_old_mark low m = m.oid.0 + 1

unfoldable pub marks : ℕ → ℕ → Codec (List ReadMark)
marks format n = if format == 1 then many old_mark after_old_mark n 0 else many mark after_mark n no_read

unfoldable pub reads : ℕ → Codec (List ReadMark)
reads format = counted ((0, 64) ∷ []) (marks format)
