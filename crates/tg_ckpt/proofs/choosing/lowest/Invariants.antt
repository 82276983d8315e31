use Rattle.std.proofs.Common.{◌≡◌, drop}
use Rattle.tg_play.proofs.Means.{means}
use Rattle.tg_ckpt.specs.Kept.{lower_of, lowest}
use Rattle.tg_ckpt.proofs.choosing.lowest.Given as goal

abbrev pub invariant-loop-placed : goal.invariant-loop-placed
invariant-loop-placed g l =
    lower_of l.least (lowest (means g.K.Kind g.K.Registry) l.oid l.below (drop l.placed-index l.entries)) ≡ lowest (means g.K.Kind g.K.Registry) l.oid l.below l.entries
