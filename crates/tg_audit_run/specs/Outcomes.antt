-- What is promised of a judge.
use Rattle.std.specs.Prelude.{◌≡◌, ◌⊎◌, ℕ, ◌++◌, List, [], Option, Some, None}
use Rattle.tg_io.specs.Bytes.{Takes}
use Rattle.tg_io.specs.declared.status.Status.{Status}
use Rattle.tg_io.specs.declared.status.Status.TheVariants.{Done, Illegal, Words, Script, ReadFault, WriteFault, LinkFault, Limit, NoMemory}
use Rattle.tg_trace.specs.Reading.{IsFirstOutside}
use Rattle.tg_audit.specs.declared.verdict.Verdict.{Verdict}
use Rattle.tg_audit.specs.declared.verdict.Verdict.TheVariants as verdict
use Rattle.tg_audit_run.specs.Verdicts.{HasVerdict, verdict_line}

-- Where the source tells its text: what was added to the sink's bytes, as far as the sink tells them, has P.
abbrev pub Told : Option (List ℕ) → Option (List ℕ) → Option (List ℕ) → (List ℕ → List ℕ → Type 0) → Type 0
Told (Some text) before after P = (out : List ℕ) × Takes before out after × P text out
Told None before after P = Unit {0}

-- the text has the verdict, and its line was written
abbrev pub IsToldOf : Verdict → List ℕ → List ℕ → Type 0
IsToldOf v text out = HasVerdict text v × (out ≡ verdict_line v)

-- the line is the text's first outside, and nothing was written
abbrev pub IsRefused : ℕ → List ℕ → List ℕ → Type 0
IsRefused line text out = IsFirstOutside text line × (out ≡ [])

-- a front of the line of the text's verdict
abbrev pub IsFront : List ℕ → List ℕ → Type 0
IsFront text out = (v : Verdict) × (rest : List ℕ) × HasVerdict text v × (out ++ rest ≡ verdict_line v)

-- nothing, or such a front
abbrev pub IsCutShort : List ℕ → List ℕ → Type 0
IsCutShort text out = (out ≡ []) ⊎ IsFront text out

-- What is written with each status.
abbrev pub Written : List ℕ → Status → List ℕ → Type 0
Written text Done out = IsToldOf verdict.Legal text out
Written text (Illegal line clause) out = IsToldOf (verdict.Illegal line clause) text out
Written text (Script line) out = IsRefused line text out
Written text ReadFault out = out ≡ []
Written text WriteFault out = IsFront text out
Written text NoMemory out = IsCutShort text out
Written text status out = ⊥

-- A judge ends by none of the others.
abbrev pub IsOfJudge : Status → Type 0
IsOfJudge Words = ⊥
IsOfJudge LinkFault = ⊥
IsOfJudge (Limit which) = ⊥
IsOfJudge status = Unit {0}

-- a text that is refused and a source that failed leave nothing written
abbrev pub IsSilent : Status → Type 0
IsSilent (Script line) = Unit {0}
IsSilent ReadFault = Unit {0}
IsSilent status = ⊥
