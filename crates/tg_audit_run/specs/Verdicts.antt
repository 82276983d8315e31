-- The verdict on a text, and the line that tells it.
use Rattle.std.specs.Prelude.{◌≡◌, ℕ, true, List, [], ◌∷◌, ◌++◌, codes, decimal}
use Rattle.tg_base.specs.declared.fault.Clause.{Clause}
use Rattle.tg_base.specs.declared.fault.Clause.TheVariants.{A, B, C, D, E}
use Rattle.tg_io.specs.declared.status.Status.{Status}
use Rattle.tg_io.specs.declared.status.Status.TheVariants as status
use Rattle.tg_trace.specs.Transcripts.{rendered, is_transcript}
use Rattle.tg_trace.specs.declared.transcript.Transcript.{Transcript}
use Rattle.tg_audit.specs.Told.{verdict_of}
use Rattle.tg_audit.specs.Same.{same_op, same_answer}
use Rattle.tg_audit.specs.declared.verdict.Verdict.{Verdict}
use Rattle.tg_audit.specs.declared.verdict.Verdict.TheVariants.{Legal, Illegal}
use Rattle.tg_any.specs.AllKinds.{all_kinds}

-- what the rules of a legal run say of a transcript: that it is legal, or its first line that fails and the first clause there
abbrev pub judged : Transcript → Verdict
judged t = verdict_of all_kinds same_op same_answer t.objects t.history t.trace

-- the text is a transcript's, and this is the verdict on it
abbrev pub HasVerdict : List ℕ → Verdict → Type 0
HasVerdict text v = (t : Transcript) × (is_transcript t ≡ true) × (text ≡ rendered t) × (judged t ≡ v)

-- a clause by its letter, `a` to `e`
abbrev pub letter : Clause → ℕ
letter A = 97
letter B = 98
letter C = 99
letter D = 100
letter E = 101

-- `legal`, or `illegal 7 e`, and a line feed
abbrev pub verdict_line : Verdict → List ℕ
verdict_line Legal = codes "legal" ++ 10 ∷ []
verdict_line (Illegal line clause) = codes "illegal " ++ decimal line ++ 32 ∷ letter clause ∷ 10 ∷ []

-- the status with which a verdict is told
abbrev pub status_of : Verdict → Status
status_of Legal = status.Done
status_of (Illegal line clause) = status.Illegal line clause
