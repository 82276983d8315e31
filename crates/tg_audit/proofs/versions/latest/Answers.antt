use Rattle.tg_audit.proofs.Means.{means}
use Rattle.tg_audit.proofs.Changing.{latest_next, latest_all}
use Rattle.tg_audit.proofs.versions.latest.Goals as goal

pub loop-done-preserved : goal.loop-done-preserved
loop-done-preserved g c =
    latest_next (means g.K.Kind g.K.Registry) c.args.oid c.args.part.now c.args.before c.loop-done.version c.later-version.result c.args.history.now c.loop-done.done-index c.done-item.result _
    c.loop-done-test.true c.done-item.is c.later-version.ensures c.loop-done.invariant

pub returns : goal.returns
returns g c = latest_all (means g.K.Kind g.K.Registry) c.args.oid c.args.part.now c.args.before c.loop-done.version c.args.history.now c.loop-done.done-index _ c.loop-done-test.false c.loop-done.invariant
