use Rattle.tg_audit.specs.Judging.{reach}
use Rattle.tg_audit.specs.Runs.{bound_at}
use Rattle.tg_audit.proofs.Means.{means}
use Rattle.tg_audit.proofs.Bounds.{bound_next, bound_all}
use Rattle.tg_audit.proofs.points.bounds.Goals as goal

pub loop-place-preserved : goal.loop-place-preserved
loop-place-preserved g c k x h =
    bound_next (means g.K.Kind g.K.Registry) (reach (means g.K.Kind g.K.Registry) c.args.trace.now) k x c.loop-place.reach (bound_at (means g.K.Kind g.K.Registry) c.loop-place.bounds k x) (bound_at (means g.K.Kind g.K.Registry) c.note_begin.new.bounds k x) c.reached-reach.result c.args.trace.now c.args.points.now c.loop-place.place c.index-trace-place.result _
    c.loop-place-test.true c.index-trace-place.is c.requires (c.in_ok-note_begin.ensures k x h) c.reached-reach.ensures (c.loop-place.invariant k x h)

pub returns : goal.returns
returns g c k x h =
    bound_all (means g.K.Kind g.K.Registry) (reach (means g.K.Kind g.K.Registry) c.args.trace.now) k x c.loop-place.reach (bound_at (means g.K.Kind g.K.Registry) c.loop-place.bounds k x) c.args.trace.now c.loop-place.place _ c.loop-place-test.false (c.loop-place.invariant k x h)
