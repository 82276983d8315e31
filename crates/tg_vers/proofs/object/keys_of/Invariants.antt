use Rattle.std.proofs.Common.{◌≡◌, ◌≤◌, length, drop}
use Rattle.tg_vers.specs.Kept.{keys_kept}
use Rattle.tg_vers.proofs.object.keys_of.Given as goal

abbrev pub invariant-loop-at : goal.invariant-loop-at
invariant-loop-at l = record {
  within : l.at ≤ length l.keys;
  kept : l.kept.entries ≡ keys_kept (drop l.at l.keys);
}
