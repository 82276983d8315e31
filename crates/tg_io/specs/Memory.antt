-- Forms in memory, as contracts see them.
use Rattle.std.specs.Prelude.{ℕ, ◌+◌, ◌-◌, ◌^◌, List, ◌++◌, drop}
use Rattle.tg_io.specs.Calls.{Count, called, failures, never_fails}
use Rattle.tg_io.specs.Faults.{StaysSure}

-- a form in memory whose list of failing calls is empty never fails
abbrev pub KeepsSure : Count → Count → Type 0
KeepsSure before now = StaysSure (never_fails before) (never_fails now) (failures before) (failures now)

-- a source: the bytes still to come, how many were given, and its calls
pub record Input : Type 0 where
  pub left : List ℕ
  pub given : ℕ
  pub calls : Count

-- how many bytes it may still give
abbrev pub input_room : Input → ℕ
input_room s = 2 ^ 64 - 1 - s.given

-- a read of so many bytes
abbrev pub input_gives : Input → ℕ → Input
input_gives s n = record { left = drop n s.left; given = s.given + n; calls = called s.calls }

-- a sink: the bytes taken, and its calls
pub record Output : Type 0 where
  pub written : List ℕ
  pub calls : Count

-- a write of a piece
abbrev pub output_takes : Output → List ℕ → Output
output_takes s piece = record { written = s.written ++ piece; calls = called s.calls }
