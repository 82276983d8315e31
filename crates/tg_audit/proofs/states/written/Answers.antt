use Rattle.tg_audit.proofs.Means.{means}
use Rattle.tg_audit.proofs.Plays.{written_next, written_all}
use Rattle.tg_audit.proofs.states.written.Goals as goal

pub loop-one-preserved : goal.loop-one-preserved
loop-one-preserved g c =
    written_next (means g.K.Kind g.K.Registry) c.args.oid c.loop-one.state c.in_ok-state.state c.args.writes.now c.loop-one.one-index c.one-item.result _
    c.loop-one-test.true c.one-item.is c.in_ok-state.ensures c.loop-one.invariant

pub returns : goal.returns
returns g c = written_all (means g.K.Kind g.K.Registry) c.args.oid c.loop-one.state c.args.writes.now c.loop-one.one-index _ c.loop-one-test.false c.loop-one.invariant
