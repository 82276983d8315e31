-- How far a unit is trimmed after a request.
use Rattle.std.specs.Prelude.{ℕ, ◌==◌, max, if◌then◌else◌}
use Rattle.tg_protocol.specs.Units.{UnitState, UnitAsk, TrimsBelow}

-- only a trim of its epoch changes it
abbrev pub low_asked : UnitState → UnitAsk → ℕ
low_asked s (TrimsBelow e b) = if s.epoch == e then max s.low b else s.low
low_asked s _ = s.low
