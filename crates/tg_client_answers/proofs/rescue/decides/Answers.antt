use Rattle.std.proofs.Common.{ap}
use Rattle.tg_play.proofs.Means.{means}
use Rattle.tg_protocol.specs.Answers.{rescue_decision}
use Rattle.tg_client_state.specs.States.{client_of}
use Rattle.tg_client_answers.proofs.TellingPast.{moves_same}
use Rattle.tg_client_answers.proofs.rescue.decides.Goals as goal

pub returns-in-None : goal.returns-in-None
returns-in-None g c = λ es r w old le hv hj.
    let m = means g.K.Kind g.K.Registry in
    moves_same m c.rescued.result old _ _ (ap (rescue_decision m (client_of m c.args.state r) w es c.args.at c.args.yes) c.in-None.is) (c.rescued.ensures r old hv)

pub returns-in-Some : goal.returns-in-Some
returns-in-Some g c = λ es r w old le hv hj.
    let m = means g.K.Kind g.K.Registry in
    moves_same m c.decides.result old _ _ (ap (rescue_decision m (client_of m c.args.state r) w es c.args.at c.args.yes) c.in-Some.is) (c.decides.ensures r w old le hv hj)
