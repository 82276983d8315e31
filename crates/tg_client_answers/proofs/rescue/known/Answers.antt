use Rattle.std.proofs.Common.{ap}
use Rattle.tg_play.proofs.Means.{means}
use Rattle.tg_protocol.specs.Answers.{rescue_known}
use Rattle.tg_protocol.specs.Clients.{all_entries}
use Rattle.tg_client_state.specs.States.{client_of}
use Rattle.tg_client_answers.proofs.TellingPast.{moves_same}
use Rattle.tg_client_answers.proofs.rescue.known.Goals as goal

pub returns-then-needs : goal.returns-then-needs
returns-then-needs g c = λ r w old le hv hj.
    let m = means g.K.Kind g.K.Registry in
    let es = all_entries m (client_of m c.args.state r) w w.oids in
    moves_same m c.decided.result old _ _ (ap (rescue_known m (client_of m c.args.state r) w es c.args.at c.args.yes) c.if-needs.true) (c.decided.ensures r w old le hv hj)

pub returns : goal.returns
returns g c = λ r w old le hv hj.
    let m = means g.K.Kind g.K.Registry in
    let es = all_entries m (client_of m c.args.state r) w w.oids in
    moves_same m c.rescued.result old _ _ (ap (rescue_known m (client_of m c.args.state r) w es c.args.at c.args.yes) c.if-needs.false) (c.rescued.ensures r old hv)
