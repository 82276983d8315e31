use Rattle.tg_audit.proofs.Means.{means}
use Rattle.tg_audit.proofs.Plays.{state_told}
use Rattle.tg_audit.proofs.states.state_before.Goals as goal

pub returns : goal.returns
returns g c =
    state_told (means g.K.Kind g.K.Registry) c.args.objects.now c.args.history.now c.args.before c.args.oid c.in_ok-state.state c.played.result c.in_ok-state.ensures c.played.ensures
