use Rattle.std.proofs.Common.{ap, ◌∙◌}
use Rattle.tg_play.proofs.Means.{means}
use Rattle.tg_client_answers.proofs.TellingTx.{closed_told}
use Rattle.tg_protocol.specs.Clients.{tx_number}
use Rattle.tg_client_state.specs.States.{StateOf}
use Rattle.tg_client_answers.proofs.closing.closes.Goals as goal

pub returns : goal.returns
returns g c = λ r old h. closed_told (means g.K.Kind g.K.Registry) c.args.state c.closed.result r old c.tx_number-number.result c.args.what c.answers.result c.closed.ensures (c.tx_number-number.ensures ∙ ap (λ (s : StateOf (means g.K.Kind g.K.Registry)). tx_number (means g.K.Kind g.K.Registry) s.tx) (c.deref.ensures ∙ c.state.view_is)) h (c.answers.ensures r old)
