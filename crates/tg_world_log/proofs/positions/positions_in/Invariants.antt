use Rattle.std.proofs.Common.{◌≡◌, ◌≤◌, length, drop}
use Rattle.tg_protocol.specs.Logs.{all_positions}
use Rattle.tg_world_log.proofs.positions.positions_in.Given as goal

abbrev pub invariant-loop-at : goal.invariant-loop-at
invariant-loop-at l = record {
  within : l.at ≤ length l.units;
  found : l.found.keys ≡ all_positions (drop l.at l.units);
}
