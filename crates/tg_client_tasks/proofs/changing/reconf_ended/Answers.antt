use Rattle.std.proofs.Common.{◌≡◌, ℕ, sym, subst, ◌∙◌}
use Rattle.std.specs.Prelude.{IfOk}
use Rattle.tg_model.specs.declared.refusal.Refusal.TheVariants as cause
use Rattle.tg_play.proofs.Means.{means}
use Rattle.tg_protocol.specs.Answers.{replies, refuses}
use Rattle.tg_protocol.specs.ClientSteps.{reconf_ended}
use Rattle.tg_reconf.specs.Turns.{end_of}
use Rattle.tg_reconf.specs.declared.step.ReconfEnd.{ReconfEnd}
use Rattle.tg_client_state.specs.States.{StateOf, Rest, client_of, KeepsViewIf, KeepsMoved}
use Rattle.tg_client_tasks.proofs.Starting.{replied_at}
use Rattle.tg_client_tasks.proofs.changing.reconf_ended.Goals as goal

pub returns-in_ok-notes-in-Installed : goal.returns-in_ok-notes-in-Installed
returns-in_ok-notes-in-Installed g c = λ r old h.
    let m = means g.K.Kind g.K.Registry in
    let stand = c.in-Installed.stand in
    let was : c.deref_mut.result.now ≡ c.args.state = c.deref_mut.ensures.value ∙ c.state.view_is in
    let said = subst (λ (s : StateOf m). (q : Rest m) (o : ℕ) → KeepsViewIf m s.view q.view → IfOk c.replies.result (λ y. KeepsMoved m o y (replies m (client_of m (record s { stand = stand }) q) c.in_ok-notes-in-Installed.notes))) was c.replies.ensures in
    subst (λ (e : ReconfEnd). IfOk c.replies.result (λ x. KeepsMoved m old x (reconf_ended m (client_of m c.args.state r) (end_of e)))) (sym c.in-Installed.is)
    (replied_at m c.replies.result (record c.args.state { stand = stand }) r old _ _ c.in_ok-notes-in-Installed.ensures said h)

pub returns-in-Overtaken : goal.returns-in-Overtaken
returns-in-Overtaken g c = λ r old h.
    let m = means g.K.Kind g.K.Registry in
    let was : c.deref_mut-in-Overtaken.result.now ≡ c.args.state = c.deref_mut-in-Overtaken.ensures.value ∙ c.state-in-Overtaken.view_is in
    subst (λ (e : ReconfEnd). IfOk c.refuses.result (λ x. KeepsMoved m old x (reconf_ended m (client_of m c.args.state r) (end_of e)))) (sym c.in-Overtaken.is)
    (subst (λ (s : StateOf m). KeepsViewIf m s.view r.view → IfOk c.refuses.result (λ x. KeepsMoved m old x (refuses m (client_of m (record s { stand = c.in-Overtaken.stand }) r) 0 (cause.Overtaken c.in-Overtaken.epoch)))) was
    (c.refuses.ensures r old) h)

pub returns-in-NotWhole : goal.returns-in-NotWhole
returns-in-NotWhole g c = λ r old h.
    let m = means g.K.Kind g.K.Registry in
    let was : c.deref_mut-in-NotWhole.result.now ≡ c.args.state = c.deref_mut-in-NotWhole.ensures.value ∙ c.state-in-NotWhole.view_is in
    subst (λ (e : ReconfEnd). IfOk c.refuses-in-NotWhole.result (λ x. KeepsMoved m old x (reconf_ended m (client_of m c.args.state r) (end_of e)))) (sym c.in-NotWhole.is)
    (subst (λ (s : StateOf m). KeepsViewIf m s.view r.view → IfOk c.refuses-in-NotWhole.result (λ x. KeepsMoved m old x (refuses m (client_of m (record s { stand = c.in-NotWhole.stand }) r) 0 (cause.NotWhole c.in-NotWhole.unit c.in-NotWhole.pos)))) was
    (c.refuses-in-NotWhole.ensures r old) h)
