use Rattle.std.proofs.Common.{◌≡◌, Some, ap, subst, ◌∙◌}
use Rattle.std.specs.Prelude.{◌+◌}
use Rattle.tg_play.proofs.Means.{means}
use Rattle.tg_protocol.specs.Answers.{moved}
use Rattle.tg_client_state.specs.States.{StateOf, KeepsViewIf, KeepsMoved}
use Rattle.tg_client_tasks.specs.Idle.{idle}
use Rattle.tg_client_tasks.proofs.Accepted.{begun_so}
use Rattle.tg_client_tasks.proofs.accepting.begins.Goals as goal

pub returns : goal.returns
returns g c = λ v n h.
    let m = means g.K.Kind g.K.Registry in
    let old = c.args.state.rids.next in
    let k = c.deref.result.now.begun + 1 in
    let tx = Some c.open.result in
    let was : c.deref_mut.result.now ≡ c.args.state = c.deref_mut.ensures.value ∙ c.state-2.view_is in
    let now : record c.deref_mut-2.result.now { begun = k } ≡ record c.args.state { tx = tx; begun = k } =
    ap (λ (s : StateOf m). record s { begun = k }) c.deref_mut-2.ensures.value ∙ ap (λ (s : StateOf m). record s { tx = tx; begun = k }) was in
    let said = subst (λ (s : StateOf m). KeepsViewIf m s.view v → KeepsMoved m old c.says.result (moved m (idle m s v n) c.in_ok-notes.notes)) now (c.says.ensures v n old) h in
    begun_so m c.args.state v n old k c.open.result c.in_ok-notes.notes c.says.result (ap (λ (s : StateOf m). s.begun + 1) (c.deref.ensures ∙ c.state.view_is)) c.open.ensures c.in_ok-notes.ensures said
