use Rattle.std.proofs.Common.{◌≡◌, ◌≤◌, length, drop}
use Rattle.tg_play.specs.Kept.{decisions_kept}
use Rattle.tg_play.proofs.decisions.decisions_of.Given as goal

abbrev pub invariant-loop-at : goal.invariant-loop-at
invariant-loop-at l = record {
  within : l.at ≤ length l.entries;
  kept : l.decisions.entries ≡ decisions_kept (drop l.at l.entries);
}
