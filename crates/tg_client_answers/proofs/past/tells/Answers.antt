use Rattle.std.proofs.Common.{Some, refl}
use Rattle.tg_play.proofs.Means.{means}
use Rattle.tg_client_state.specs.States.{client_of}
use Rattle.tg_client_answers.proofs.TellingPast.{moves_same, answer_told}
use Rattle.tg_client_answers.proofs.past.tells.Goals as goal

pub returns : goal.returns
returns g c = λ r old hv.
    let m = means g.K.Kind g.K.Registry in
    moves_same m c.replies.result old _ _
    (answer_told m (client_of m c.args.state r) c.args.at c.args.oid c.args.ask (Some c.args.kind.now) c.args.kind.now c.in_ok-ans.ans c.in_ok-notes.notes refl c.in_ok-ans.ensures c.in_ok-notes.ensures)
    (c.replies.ensures r old hv)
