use Rattle.std.proofs.Common.{◌≡◌, ◌≤◌, length, drop}
use Rattle.tg_world_log.specs.Archives.{with_keys}
use Rattle.tg_world_log.proofs.positions.put_each.Given as goal

abbrev pub invariant-loop-at : goal.invariant-loop-at
invariant-loop-at l = record {
  within : l.at ≤ length l.positions;
  found : l.found.keys ≡ with_keys (drop l.at l.positions) l.initial.found.keys;
}
