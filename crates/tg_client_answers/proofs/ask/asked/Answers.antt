use Rattle.std.proofs.Common.{◌≡◌, Option, ap, subst, ◌∙◌}
use Rattle.std.specs.Prelude.{IfOk}
use Rattle.tg_play.proofs.Means.{means}
use Rattle.tg_model.specs.declared.trace.What.TheVariants.{Asked}
use Rattle.tg_protocol.specs.Transactions.{Tx}
use Rattle.tg_protocol.specs.Clients.{tx_number}
use Rattle.tg_protocol.specs.Answers.{answers}
use Rattle.tg_client_state.specs.States.{StateOf, client_of, KeepsViewIf, KeepsMoved}
use Rattle.tg_client_answers.specs.Fates.{Notes}
use Rattle.tg_client_answers.proofs.TellingTx.{asked_as}
use Rattle.tg_client_answers.proofs.ask.asked.Goals as goal

pub returns : goal.returns
returns g c = λ r old hk.
    let m = means g.K.Kind g.K.Registry in
    let tx = c.in_ok-tx.tx in
    let before : c.deref.result.now ≡ c.args.state = c.deref.ensures ∙ c.state.view_is in
    let was : c.deref_mut.result.now ≡ c.args.state = c.deref_mut.ensures.value ∙ c.state-2.view_is in
    let taken : c.take.result ≡ c.args.state.tx = c.take.ensures.value ∙ ap (λ (s : StateOf m). s.tx) was in
    let now : record c.deref_mut-2.result.now { tx = tx } ≡ record c.args.state { tx = tx } = ap (λ (s : StateOf m). record s { tx = tx }) c.deref_mut-2.ensures.value ∙ ap (λ (s : StateOf m). record s { tx = tx }) was in
    asked_as m c.args.state r old c.tx_number-number.result c.args.tail c.args.oid c.args.ask c.args.answer tx c.answers.result
    (c.tx_number-number.ensures ∙ ap (λ (s : StateOf m). tx_number m s.tx) before)
    (subst (λ (o : Option Tx). Notes o (record { oid = c.args.oid; part = c.args.answer.part; version = c.args.answer.version }) c.args.tail tx) taken c.in_ok-tx.ensures)
    (subst (λ (s : StateOf m). KeepsViewIf m s.view r.view → IfOk c.answers.result (λ y. KeepsMoved m old y (answers m (client_of m s r) c.tx_number-number.result (Asked c.args.oid c.args.ask c.args.tail c.args.answer.ans)))) now (c.answers.ensures r old) hk)
