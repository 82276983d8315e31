-- What is missing, and which requests take no memory.
use Rattle.std.specs.Prelude.{ℕ, Option}
use Rattle.tg_base.specs.declared.msg.Msg.{Msg}
use Rattle.tg_base.specs.declared.msg.Msg.TheVariants.{Read, Write, Copy, Fill}
use Rattle.tg_protocol.specs.Units.{UnitState, first_missing, how_many}

-- the first of p, p + step, .. below hi that is neither trimmed nor has a cell
abbrev pub missing_from : UnitState → ℕ → ℕ → ℕ → Option ℕ
missing_from s step hi p = first_missing s step (how_many p hi step) p

-- a request that neither stores nor tells a cell, or no request
unfoldable pub TakesNoMemory : Msg → Type 0
TakesNoMemory (Read epoch pos) = ⊥
TakesNoMemory (Write epoch pos page) = ⊥
TakesNoMemory (Copy epoch pos cell) = ⊥
TakesNoMemory (Fill epoch pos) = ⊥
TakesNoMemory other = Unit {0}
