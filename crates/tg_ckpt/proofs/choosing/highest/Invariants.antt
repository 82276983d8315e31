use Rattle.std.proofs.Common.{◌≡◌, ◌≤◌, length, drop}
use Rattle.tg_play.proofs.Means.{means}
use Rattle.tg_ckpt.specs.Kept.{highest}
use Rattle.tg_ckpt.proofs.choosing.highest.Given as goal

abbrev pub invariant-loop-at : goal.invariant-loop-at
invariant-loop-at g l = record {
  within : l.at ≤ length l.entries;
  highest : l.greatest ≡ highest (means g.K.Kind g.K.Registry) l.oid l.below l.high (drop l.at l.entries);
}
