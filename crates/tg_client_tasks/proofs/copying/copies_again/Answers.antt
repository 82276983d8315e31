use Rattle.std.proofs.Common.{sym, ◌∙◌, None, Some, ap}
use Rattle.std.specs.Prelude.{IfOk}
use Rattle.tg_play.proofs.Means.{means}
use Rattle.tg_client_state.specs.States.{StateOf, client_of, KeepsMoved}
use Rattle.tg_client_tasks.proofs.Starting.{copies_so, refused_at}
use Rattle.tg_protocol.specs.Layouts.{spare_fault}
use Rattle.tg_client_tasks.proofs.copying.copies_again.Goals as goal

pub returns-in-None : goal.returns-in-None
returns-in-None g c = λ r w old b h e.
    copies_so (means g.K.Kind g.K.Registry) (λ z. IfOk c.copies.result (λ x. KeepsMoved (means g.K.Kind g.K.Registry) old x z)) (client_of (means g.K.Kind g.K.Registry) c.args.state r) w b c.args.spare None e (sym c.in-None.is ∙ c.spare_fault.ensures ∙ ap (λ (s : StateOf (means g.K.Kind g.K.Registry)). spare_fault s.stand c.args.spare) (c.deref.ensures ∙ c.state.view_is))
    (c.copies.ensures r w old b h.since h.view h.job e)

pub returns-in-Some : goal.returns-in-Some
returns-in-Some g c = λ r w old b h e.
    copies_so (means g.K.Kind g.K.Registry) (λ z. IfOk c.refuses.result (λ x. KeepsMoved (means g.K.Kind g.K.Registry) old x z)) (client_of (means g.K.Kind g.K.Registry) c.args.state r) w b c.args.spare (Some c.in-Some.fault) e (sym c.in-Some.is ∙ c.spare_fault.ensures ∙ ap (λ (s : StateOf (means g.K.Kind g.K.Registry)). spare_fault s.stand c.args.spare) (c.deref.ensures ∙ c.state.view_is))
    (refused_at (means g.K.Kind g.K.Registry) c.refuses.result c.args.state r old _ _ c.layout_refusal.ensures c.refuses.ensures h.view)
