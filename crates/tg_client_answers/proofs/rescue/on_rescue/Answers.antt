use Rattle.std.proofs.Common.{sym, ap}
use Rattle.tg_play.proofs.Means.{means}
use Rattle.tg_protocol.specs.Answers.{rescue_by}
use Rattle.tg_protocol.specs.Clients.{all_entries}
use Rattle.tg_client_state.specs.States.{client_of}
use Rattle.tg_client_answers.proofs.TellingPast.{moves_same}
use Rattle.tg_client_answers.proofs.rescue.on_rescue.Goals as goal

pub returns : goal.returns
returns g c = λ r w old le hv hj.
    let m = means g.K.Kind g.K.Registry in
    let es = all_entries m (client_of m c.args.state r) w w.oids in
    moves_same m c.after.result old _ _ (ap (rescue_by m (client_of m c.args.state r) w es c.args.at) (sym (c.in_ok-turn.ensures r w hj))) (c.after.ensures r w old le hv hj)
