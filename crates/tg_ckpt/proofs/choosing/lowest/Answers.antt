use Rattle.std.proofs.Common.{◌+◌, drop}
use Rattle.tg_play.proofs.Means.{means}
use Rattle.tg_play.proofs.Splitting.{drop_item, drop_all}
use Rattle.tg_ckpt.proofs.Telling.{lowest_more, lowest_end}
use Rattle.tg_ckpt.proofs.choosing.lowest.Goals as goal

pub loop-placed-preserved : goal.loop-placed-preserved
loop-placed-preserved g c =
    lowest_more (means g.K.Kind g.K.Registry) c.args.oid c.args.below _ _ c.placed-item.result (drop c.loop-placed.placed-index c.args.entries.now) (drop (c.loop-placed.placed-index + 1) c.args.entries.now) _
    (drop_item c.args.entries.now c.loop-placed.placed-index c.placed-item.result c.loop-placed-test.true c.placed-item.is) c.in_ok-take_lower.ensures c.loop-placed.invariant

pub returns : goal.returns
returns g c =
    lowest_end (means g.K.Kind g.K.Registry) c.args.oid c.args.below c.loop-placed.least (drop c.loop-placed.placed-index c.args.entries.now) _ (drop_all c.args.entries.now c.loop-placed.placed-index c.loop-placed-test.false) c.loop-placed.invariant
