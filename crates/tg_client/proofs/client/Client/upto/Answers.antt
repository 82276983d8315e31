use Rattle.std.proofs.Common.{sym, ap, ◌∙◌}
use Rattle.tg_protocol.specs.Clients.{upto}
use Rattle.tg_client_state.specs.States.{rest_of}
use Rattle.tg_play.proofs.Means.{means}
use Rattle.tg_client.proofs.client.Client.upto.Goals as goal

pub returns : goal.returns
returns g c = λ d h. c.upto.ensures (rest_of (means g.K.Kind g.K.Registry) d) h.kept.view ∙ ap (upto (means g.K.Kind g.K.Registry)) (sym h.kept.is)
