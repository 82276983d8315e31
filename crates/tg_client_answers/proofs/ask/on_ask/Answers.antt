use Rattle.std.proofs.Common.{◌∙◌, ap}
use Rattle.tg_play.proofs.Means.{means}
use Rattle.tg_client_state.specs.States.{StateOf, client_of}
use Rattle.tg_client_answers.proofs.TellingTx.{moves_same, came_as, refused_as}
use Rattle.tg_protocol.specs.Clients.{tx_number}
use Rattle.tg_client_answers.proofs.ask.on_ask.Goals as goal

pub returns-in-Played : goal.returns-in-Played
returns-in-Played g c = λ r w v old hv hk he. moves_same (means g.K.Kind g.K.Registry) c.ask_in.result old _ _ (came_as (means g.K.Kind g.K.Registry) (client_of (means g.K.Kind g.K.Registry) c.args.state r) w c.args.oid c.args.ask v c.args.came _ c.in-Played.is) (c.ask_in.ensures r w v old hv hk he)

pub returns-in-Blocked : goal.returns-in-Blocked
returns-in-Blocked g c = λ r w v old hv hk he. moves_same (means g.K.Kind g.K.Registry) c.refuses.result old _ _ (refused_as (means g.K.Kind g.K.Registry) (client_of (means g.K.Kind g.K.Registry) c.args.state r) _ _ _ (c.tx_number-number.ensures ∙ ap (λ (s : StateOf (means g.K.Kind g.K.Registry)). tx_number (means g.K.Kind g.K.Registry) s.tx) (c.deref.ensures ∙ c.state.view_is)) ∙ came_as (means g.K.Kind g.K.Registry) (client_of (means g.K.Kind g.K.Registry) c.args.state r) w c.args.oid c.args.ask v c.args.came _ c.in-Blocked.is) (c.refuses.ensures r old hk)
