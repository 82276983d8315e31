-- What is promised of a replay.
use Rattle.std.specs.Prelude.{◌≡◌, ◌⊎◌, ℕ, ◌++◌, List, [], Option, Some, None}
use Rattle.tg_io.specs.Bytes.{Takes}
use Rattle.tg_io.specs.declared.status.Status.{Status}
use Rattle.tg_io.specs.declared.status.Status.TheVariants.{Illegal, Words, ReadFault, WriteFault, LinkFault, NoMemory}
use Rattle.tg_replay.specs.Runs.{Outcome}

-- Where the source tells its text: what was added to the sink's bytes, as far as the sink tells them, has P.
abbrev pub Told : Option (List ℕ) → Option (List ℕ) → Option (List ℕ) → (List ℕ → List ℕ → Type 0) → Type 0
Told (Some text) before after P = (out : List ℕ) × Takes before out after × P text out
Told None before after P = Unit {0}

-- a front of the transcript that one of the statuses 0, 3 and 7 asks for
abbrev pub IsFront : List ℕ → List ℕ → Type 0
IsFront text out = (status : Status) × (whole rest : List ℕ) × Outcome text status whole × (out ++ rest ≡ whole)

-- nothing, or a front of a transcript
abbrev pub IsCutShort : List ℕ → List ℕ → Type 0
IsCutShort text out = (out ≡ []) ⊎ IsFront text out

-- What is written with each status.
abbrev pub Written : List ℕ → Status → List ℕ → Type 0
Written text Words out = out ≡ []
Written text ReadFault out = out ≡ []
Written text WriteFault out = IsFront text out
Written text NoMemory out = IsCutShort text out
Written text status out = Outcome text status out

-- A replay ends by none of the others.
abbrev pub IsOfReplay : Status → Type 0
IsOfReplay Words = ⊥
IsOfReplay (Illegal line clause) = ⊥
IsOfReplay LinkFault = ⊥
IsOfReplay status = Unit {0}
