use Rattle.std.proofs.Common.{sym, subst}
use Rattle.tg_client_state.specs.States.{StateOf, KeepsViewIf}
use Rattle.tg_play.proofs.Means.{means}
use Rattle.tg_client_tasks.proofs.Deciding.{took_replied}
use Rattle.tg_client_tasks.proofs.appending.marked.Goals as goal

pub returns : goal.returns
returns g c = λ r w old h.
    took_replied (means g.K.Kind g.K.Registry) c.replies.result c.in_ok-state.state c.in_ok-takes_over.field-0 _ r old c.in_ok-notes.notes _ c.in_ok-state.ensures
    (c.in_ok-takes_over.ensures.is r (subst (λ (v : StateOf (means g.K.Kind g.K.Registry)). KeepsViewIf (means g.K.Kind g.K.Registry) v.view r.view) (sym c.in_ok-state.ensures) h)) c.in_ok-takes_over.ensures.view c.in_ok-notes.ensures c.replies.ensures h
