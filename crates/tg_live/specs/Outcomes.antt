-- What is promised of a live run.
use Rattle.std.specs.Prelude.{◌≡◌, ◌⊎◌, ℕ, ◌++◌, List, []}
use Rattle.tg_base.specs.declared.fault.Which.{Which}
use Rattle.tg_io.specs.declared.status.Status.{Status}
use Rattle.tg_io.specs.declared.status.Status.TheVariants.{Limit, Illegal, Words, ReadFault, WriteFault, LinkFault, NoMemory}
use Rattle.tg_live.specs.Scripts.{Over, Outcome}

-- a front of what one of the statuses 0, 3 and 7 asks for
abbrev pub IsFront : Over → List ℕ → List ℕ → Type 0
IsFront o text out = (status : Status) × (whole rest : List ℕ) × Outcome o text status whole × (out ++ rest ≡ whole)

-- nothing, or a front of it
abbrev pub IsCutShort : Over → List ℕ → List ℕ → Type 0
IsCutShort o text out = (out ≡ []) ⊎ IsFront o text out

-- What is written with each status.
abbrev pub Written : Over → List ℕ → Status → List ℕ → Type 0
Written o text Words out = out ≡ []
Written o text ReadFault out = out ≡ []
Written o text LinkFault out = out ≡ []
Written o text WriteFault out = IsFront o text out
Written o text NoMemory out = IsCutShort o text out
Written o text status out = Outcome o text status out

-- a run ends so, unless a limit stops it or memory runs out
abbrev pub IsOrStops : Status → Status → Type 0
IsOrStops status is = (status ≡ is) ⊎ (((which : Which) × (status ≡ Limit which)) ⊎ (status ≡ NoMemory))

-- A live run ends by neither of the others.
abbrev pub IsOfLive : Status → Type 0
IsOfLive Words = ⊥
IsOfLive (Illegal line clause) = ⊥
IsOfLive status = Unit {0}
