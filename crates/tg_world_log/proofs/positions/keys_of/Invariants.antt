use Rattle.std.proofs.Common.{◌≡◌, ◌++◌}
use Rattle.tg_protocol.specs.Logs.{positions}
use Rattle.tg_world_log.proofs.positions.keys_of.Given as goal

abbrev pub invariant-loop-pos : goal.invariant-loop-pos
invariant-loop-pos l = l.found ++ positions l.pos-iterator ≡ positions l.archive.entries
