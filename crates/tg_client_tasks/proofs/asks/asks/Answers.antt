use Rattle.std.proofs.Common.{Some, None, sym, ◌∙◌, ap}
use Rattle.tg_play.proofs.Means.{means}
use Rattle.tg_client_tasks.specs.Idle.{idle}
use Rattle.tg_client_tasks.proofs.Accepted.{asks_none, asks_some}
use Rattle.tg_client_state.specs.States.{StateOf}
use Rattle.tg_client_tasks.proofs.asks.asks.Goals as goal

pub returns-in-None : goal.returns-in-None
returns-in-None g c = λ v n h.
    let old = c.args.state.rids.next in
    asks_none (means g.K.Kind g.K.Registry) (idle (means g.K.Kind g.K.Registry) c.args.state v n) c.args.oid c.args.ask c.args.state.tx c.says.result old c.new.result (ap (λ (s : StateOf (means g.K.Kind g.K.Registry)). s.tx) (sym (c.deref.ensures ∙ c.state.view_is)) ∙ c.in-None.is) c.new.ensures (c.says.ensures v n old h)

pub returns-in-None-snapshot : goal.returns-in-None-snapshot
returns-in-None-snapshot g c = λ v n h.
    asks_some (means g.K.Kind g.K.Registry) (idle (means g.K.Kind g.K.Registry) c.args.state v n) c.args.oid c.args.ask c.in-Some.tx None c.args.state.tx c.works_on.result c.args.state.rids.next (ap (λ (s : StateOf (means g.K.Kind g.K.Registry)). s.tx) (sym (c.deref.ensures ∙ c.state.view_is)) ∙ c.in-Some.is) (sym c.in-None-snapshot.is ∙ c.snapshot.ensures) (c.works_on.ensures v n h)

pub returns-in-Some-snapshot : goal.returns-in-Some-snapshot
returns-in-Some-snapshot g c = λ v n h.
    asks_some (means g.K.Kind g.K.Registry) (idle (means g.K.Kind g.K.Registry) c.args.state v n) c.args.oid c.args.ask c.in-Some.tx (Some c.in-Some-snapshot.at) c.args.state.tx c.asks_view.result c.args.state.rids.next (ap (λ (s : StateOf (means g.K.Kind g.K.Registry)). s.tx) (sym (c.deref.ensures ∙ c.state.view_is)) ∙ c.in-Some.is) (sym c.in-Some-snapshot.is ∙ c.snapshot.ensures) (c.asks_view.ensures c.in-Some.tx (ap (λ (s : StateOf (means g.K.Kind g.K.Registry)). s.tx) (sym (c.deref.ensures ∙ c.state.view_is)) ∙ c.in-Some.is) v n h)
