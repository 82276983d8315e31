use Rattle.tg_play.proofs.Means.{means}
use Rattle.tg_client_state.specs.States.{client_of, rest_of}
use Rattle.tg_protocol.specs.Answers.{took_over}
use Rattle.tg_client_state.proofs.Answered.{answered, view_taken}
use Rattle.tg_client_state.proofs.state.State.answers.Goals as goal

pub returns : goal.returns
returns g c = λ r old h.
    answered (means g.K.Kind g.K.Registry) c.args.self c.in_ok-takes_over.field-0 r old c.args.tx c.args.what c.in_ok-notes.notes c.replies.result
    (c.in_ok-takes_over.ensures.is r h) c.in_ok-notes.ensures
    (c.replies.ensures (rest_of (means g.K.Kind g.K.Registry) (took_over (means g.K.Kind g.K.Registry) (client_of (means g.K.Kind g.K.Registry) c.args.self r) r.view)) old
    (view_taken (means g.K.Kind g.K.Registry) c.args.self c.in_ok-takes_over.field-0 r c.in_ok-takes_over.ensures.view h))
