use Rattle.tg_play.proofs.Means.{means}
use Rattle.tg_node_state.proofs.Roles.{none_called}
use Rattle.tg_node_state.proofs.clients.new_client.Goals as goal

pub returns : goal.returns
returns g c = λ steps. (c.in_ok-new.ensures.keeps, none_called (means g.K.Kind g.K.Registry) c.args.cluster.now c.args.num steps)
