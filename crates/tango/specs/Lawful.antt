-- What an audit says of the run that a text renders.
use Rattle.std.specs.Prelude.{◌≡◌, ℕ, true, List}
use Rattle.tg_model.specs.Legal.{Legal}
use Rattle.tg_trace.specs.Transcripts.{rendered, is_transcript}
use Rattle.tg_trace.specs.declared.transcript.Transcript.{Transcript}
use Rattle.tg_any.specs.AllKinds.{all_kinds}

-- its objects, its history and its replies make a legal run
abbrev pub IsLegalRun : Transcript → Type 0
IsLegalRun t = Legal all_kinds t.objects t.history t.trace

-- the text is a legal run's transcript
abbrev pub IsLegalText : List ℕ → List ℕ → Type 0
IsLegalText text out = (t : Transcript) × (is_transcript t ≡ true) × (text ≡ rendered t) × IsLegalRun t

-- the text is the transcript of a run that isn't legal
abbrev pub IsIllegalText : List ℕ → List ℕ → Type 0
IsIllegalText text out = (t : Transcript) × (is_transcript t ≡ true) × (text ≡ rendered t) × (IsLegalRun t → ⊥)
