-- The format of entries.
use Rattle.std.specs.Prelude.{ℕ, ◌==◌, Bool, List, [], ◌∷◌, Option, Some, None, if◌then◌else◌}
use Rattle.tg_base.specs.declared.marks.ReadMark.{ReadMark}
use Rattle.tg_base.specs.declared.marks.StreamLink.{StreamLink}
use Rattle.tg_codec.specs.Codec.{Codec, u8, u16, u32, u64, fixed, dep, via, variant, from_table}
use Rattle.tg_codec.specs.Owing.{points}
use Rattle.tg_codec.specs.Streams.{any, from_one, links}
use Rattle.tg_entry.specs.declared.entry.WriteOp.{WriteOp}
use Rattle.tg_entry.specs.declared.entry.Entry.{Entry}
use Rattle.tg_entry.specs.declared.entry.Body.{Body}
use Rattle.tg_entry.specs.declared.entry.Body.TheVariants.{Commit, Decision, Checkpoint}
use Rattle.tg_entry.specs.Reads.{reads}
use Rattle.tg_entry.specs.Writes.{stream_numbers, writes}
use Rattle.tg_entry.specs.Checkpoints.{fields, make_checkpoint, as_checkpoint}

abbrev pub tag_of : Body → ℕ
tag_of (Commit rs ws) = 1
tag_of (Decision at fate) = 2
tag_of (Checkpoint oid upto version whole keys state) = 3

abbrev pub as_commit : Body → Option (List ReadMark × List WriteOp)
as_commit (Commit rs ws) = Some (rs, ws)
as_commit (Decision at fate) = None
as_commit (Checkpoint oid upto version whole keys state) = None

abbrev pub as_decision : Body → Option (ℕ × Bool)
as_decision (Commit rs ws) = None
as_decision (Decision at fate) = Some (at, fate)
as_decision (Checkpoint oid upto version whole keys state) = None

-- reads and writes, in the streams that are written
abbrev pub commit : ℕ → List StreamLink → Codec Body
commit format ls = variant (λ p. Commit p.0 p.1) as_commit (dep (reads format) (λ _. writes ls))

-- one byte 0 or 1 for no or yes
abbrev pub truth : Codec Bool
truth = via (λ n. n == 1) (λ b. if b then 1 else 0) (u8 ((0, 1) ∷ []))

-- the position of a commit record, and its outcome
abbrev pub decision : Codec Body
decision = variant (λ p. Decision p.0 p.1) as_decision (dep (u64 any) (λ _. truth))

-- the object is that of the one stream
abbrev pub checkpoint : ℕ → List StreamLink → Codec Body
checkpoint format ls = variant make_checkpoint as_checkpoint (fields format (points (stream_numbers ls)))

abbrev pub bodies : ℕ → List StreamLink → List (ℕ × Codec Body)
bodies format ls = (1, commit format ls) ∷ (2, decision) ∷ (3, checkpoint format ls) ∷ []

-- the body of a format, in these streams, with this tag
unfoldable pub body : ℕ → List StreamLink → ℕ → Codec Body
body format ls tag = from_table (bodies format ls) tag

-- a checkpoint has one stream, and others have up to 16
abbrev pub stream_counts : ℕ → List (ℕ × ℕ)
stream_counts tag = (1, if tag == 3 then 1 else 16) ∷ []

-- what follows the number: streams, and the body in them
abbrev pub in_streams : ℕ → ℕ → Codec (List StreamLink × Body)
in_streams format tag = dep (links (stream_counts tag)) (λ ls. body format ls tag)

-- what follows the tag: client, number, streams and body
abbrev pub by_number : ℕ → ℕ → Codec (ℕ × (List StreamLink × Body))
by_number format tag = dep (u32 from_one) (λ _. in_streams format tag)

abbrev pub by_client : ℕ → ℕ → Codec (ℕ × (ℕ × (List StreamLink × Body)))
by_client format tag = dep (u16 any) (λ _. by_number format tag)

-- what follows the first byte: format and tag, and what follows them
abbrev pub of_tag : ℕ → Codec (ℕ × (ℕ × (ℕ × (List StreamLink × Body))))
of_tag format = dep (u8 ((1, 3) ∷ [])) (by_client format)

abbrev pub Row : Type 0
Row = ℕ × (ℕ × (ℕ × (ℕ × (List StreamLink × Body))))

abbrev pub of_format : Codec Row
of_format = dep (u8 ((1, 2) ∷ [])) of_tag

abbrev pub to_entry : Unit {0} × Row → Entry
to_entry p = record { head = record { format = p.1.0; client = p.1.1.1.0; number = p.1.1.1.1.0; streams = p.1.1.1.1.1.0 }; body = p.1.1.1.1.1.1 }

abbrev pub from_entry : Entry → Unit {0} × Row
from_entry e = (tt, (e.head.format, (tag_of e.body, (e.head.client, (e.head.number, (e.head.streams, e.body))))))

-- the byte 54, format, tag of the body, client, number, streams and body
unfoldable pub entry : Codec Entry
entry = via to_entry from_entry (dep (fixed (0x54 ∷ [])) (λ _. of_format))
