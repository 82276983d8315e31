use Rattle.std.proofs.Common.{◌≡◌, ◌≤◌, length, take, drop}
use Rattle.tg_play.specs.Kept.{hosts_from}
use Rattle.tg_play.proofs.objects.hosts_of.Given as goal

abbrev pub invariant-loop-at : goal.invariant-loop-at
invariant-loop-at g l = record {
  within : l.at ≤ length l.fn.bases;
  left : l.left ≡ take l.at l.fn.bases;
  kept : l.objects.entries ≡ hosts_from (drop l.at l.fn.bases);
}
