use Rattle.std.proofs.Common.{◌≡◌, replicate}
use Rattle.tg_protocol.specs.Units.{new_unit}
use Rattle.tg_world_servers.proofs.starts.new_units.Given as goal

abbrev pub invariant-loop-num : goal.invariant-loop-num
invariant-loop-num l = l.units.items ≡ replicate l.num new_unit
