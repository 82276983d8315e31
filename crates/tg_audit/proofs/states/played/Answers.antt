use Rattle.tg_audit.proofs.Means.{means}
use Rattle.tg_audit.proofs.Plays.{played_next, played_all}
use Rattle.tg_audit.proofs.states.played.Goals as goal

pub loop-done-preserved : goal.loop-done-preserved
loop-done-preserved g c =
    played_next (means g.K.Kind g.K.Registry) c.args.oid c.args.before c.loop-done.state c.in_ok-state.state c.args.history.now c.loop-done.done-index c.done-item.result _
    c.loop-done-test.true c.done-item.is c.in_ok-state.ensures c.loop-done.invariant

pub returns : goal.returns
returns g c = played_all (means g.K.Kind g.K.Registry) c.args.oid c.args.before c.loop-done.state c.args.history.now c.loop-done.done-index _ c.loop-done-test.false c.loop-done.invariant
