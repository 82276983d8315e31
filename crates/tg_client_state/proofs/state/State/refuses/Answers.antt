use Rattle.tg_play.proofs.Means.{means}
use Rattle.tg_client_state.specs.States.{client_of}
use Rattle.tg_client_state.proofs.Answered.{refused}
use Rattle.tg_client_state.proofs.state.State.refuses.Goals as goal

pub returns : goal.returns
returns g c = λ r old h.
    refused (means g.K.Kind g.K.Registry) (client_of (means g.K.Kind g.K.Registry) c.args.self r) old c.args.tx c.args.why c.in_ok-notes.notes c.replies.result c.in_ok-notes.ensures (c.replies.ensures r old h)
