use Rattle.std.proofs.Common.{◌≡◌, ap, subst, ◌∙◌}
use Rattle.tg_play.proofs.Means.{means}
use Rattle.tg_protocol.specs.Answers.{moved}
use Rattle.tg_protocol.specs.Clients.{tx_number}
use Rattle.tg_client_state.specs.States.{StateOf, KeepsViewIf, KeepsMoved}
use Rattle.tg_client_tasks.specs.Idle.{idle}
use Rattle.tg_client_tasks.proofs.Accepted.{asked_so}
use Rattle.tg_client_tasks.proofs.asks.asked.Goals as goal

pub returns : goal.returns
returns g c = λ t w s e ha hi v n h.
    let m = means g.K.Kind g.K.Registry in
    let old = c.args.state.rids.next in
    let tx = c.in_ok-tx.tx in
    let number : c.tx_number-number.result ≡ tx_number m c.args.state.tx = c.tx_number-number.ensures ∙ ap (λ (u : StateOf m). tx_number m u.tx) (c.deref.ensures ∙ c.state.view_is) in
    let was : c.deref_mut.result.now ≡ c.args.state = c.deref_mut.ensures.value ∙ c.state-2.view_is in
    let taken : c.take.result ≡ c.args.state.tx = c.take.ensures.value ∙ ap (λ (u : StateOf m). u.tx) was in
    let now : record c.deref_mut-2.result.now { tx = tx } ≡ record c.args.state { tx = tx } = ap (λ (u : StateOf m). record u { tx = tx }) c.deref_mut-2.ensures.value ∙ ap (λ (u : StateOf m). record u { tx = tx }) was in
    let said = subst (λ (u : StateOf m). KeepsViewIf m u.view v → KeepsMoved m old c.says.result (moved m (idle m u v n) c.in_ok-notes.notes)) now (c.says.ensures v n old) h in
    asked_so m c.args.state v n old c.tx_number-number.result c.args.at c.args.version t w s c.args.oid c.args.ask c.args.answer c.in_ok-part.part tx c.in_ok-notes.notes c.says.result e ha hi c.in_ok-part.ensures.part
    (c.in_ok-tx.ensures t (taken ∙ e)) number c.in_ok-notes.ensures said
