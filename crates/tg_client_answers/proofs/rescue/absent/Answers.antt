use Rattle.std.proofs.Common.{ap}
use Rattle.tg_play.proofs.Means.{means}
use Rattle.tg_protocol.specs.Answers.{absent}
use Rattle.tg_client_state.specs.States.{client_of}
use Rattle.tg_client_answers.proofs.TellingPast.{moves_same}
use Rattle.tg_client_answers.proofs.rescue.absent.Goals as goal

pub returns-in-None : goal.returns-in-None
returns-in-None g c = λ r old hv.
    let m = means g.K.Kind g.K.Registry in
    moves_same m c.rescued.result old _ _ (ap (absent m (client_of m c.args.state r) c.args.at) c.in-None.is) (c.rescued.ensures r old hv)

pub returns-in-Some : goal.returns-in-Some
returns-in-Some g c = λ r old hv.
    let m = means g.K.Kind g.K.Registry in
    moves_same m c.refuses.result old _ _ (ap (absent m (client_of m c.args.state r) c.args.at) c.in-Some.is) (c.refuses.ensures r old hv)
