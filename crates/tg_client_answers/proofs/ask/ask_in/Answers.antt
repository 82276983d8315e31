use Rattle.std.proofs.Common.{Some, None, sym, ap, ◌∙◌}
use Rattle.tg_play.proofs.Means.{means}
use Rattle.tg_client_state.specs.States.{StateOf, client_of}
use Rattle.tg_client_answers.proofs.TellingTx.{moves_same, ask_as}
use Rattle.tg_client_answers.proofs.ask.ask_in.Goals as goal

pub returns-in-None : goal.returns-in-None
returns-in-None g c = λ r w v old hv hk he. moves_same (means g.K.Kind g.K.Registry) c.refuses.result old _ _ (ask_as (means g.K.Kind g.K.Registry) (client_of (means g.K.Kind g.K.Registry) c.args.state r) w c.args.state.tx None c.args.oid c.args.ask v (ap (λ (s : StateOf (means g.K.Kind g.K.Registry)). s.tx) (sym (c.deref.ensures ∙ c.state.view_is)) ∙ c.in-None.is)) (c.refuses.ensures r old hk)

pub returns-in-Some : goal.returns-in-Some
returns-in-Some g c = λ r w v old hv hk he. moves_same (means g.K.Kind g.K.Registry) c.asks.result old _ _ (ask_as (means g.K.Kind g.K.Registry) (client_of (means g.K.Kind g.K.Registry) c.args.state r) w c.args.state.tx (Some c.in-Some.tx) c.args.oid c.args.ask v (ap (λ (s : StateOf (means g.K.Kind g.K.Registry)). s.tx) (sym (c.deref.ensures ∙ c.state.view_is)) ∙ c.in-Some.is)) (c.asks.ensures c.in-Some.tx (ap (λ (s : StateOf (means g.K.Kind g.K.Registry)). s.tx) (sym (c.deref.ensures ∙ c.state.view_is)) ∙ c.in-Some.is) c.number-number.ensures r w v old hv hk he)
