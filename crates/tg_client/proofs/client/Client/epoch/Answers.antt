use Rattle.std.proofs.Common.{sym, ap, ◌∙◌}
use Rattle.tg_protocol.specs.Clients as told
use Rattle.tg_play.proofs.Means.{means}
use Rattle.tg_client_state.specs.States.{StateOf}
use Rattle.tg_client.proofs.client.Client.epoch.Goals as goal

pub returns : goal.returns
returns g c = λ d h. ap (λ (s : StateOf (means g.K.Kind g.K.Registry)). s.stand.epoch) (c.behind-state.view_is ∙ c.deref.ensures ∙ c.state.view_is) ∙ sym (ap (λ (x : told.Client (means g.K.Kind g.K.Registry)). x.stand.epoch) h.kept.is)
