use Rattle.std.proofs.Common.{◌≡◌, None, sym, ap, subst, ◌∙◌}
use Rattle.tg_base.specs.Orders.{with_oid}
use Rattle.tg_protocol.specs.Answers.{moved}
use Rattle.tg_protocol.specs.Words.{has_oid}
use Rattle.tg_play.proofs.Means.{means}
use Rattle.tg_client_state.specs.States.{StateOf, KeepsViewIf, KeepsMoved}
use Rattle.tg_client_tasks.specs.Idle.{idle}
use Rattle.tg_client_tasks.proofs.Accepted.{hosted_before, hosted_more}
use Rattle.tg_client_tasks.proofs.accepting.hosts.Goals as goal

pub returns-then-has : goal.returns-then-has
returns-then-has g c = λ v n h.
    let m = means g.K.Kind g.K.Registry in
    let old = c.args.state.rids.next in
    let has : c.has.result ≡ has_oid c.args.oid c.args.state.hosted = c.has.ensures ∙ ap (λ (s : StateOf m). has_oid c.args.oid s.hosted) (c.deref.ensures ∙ c.state.view_is) in
    hosted_before m c.args.state v n old c.args.oid c.in_ok-notes.notes c.says.result (has_oid c.args.oid c.args.state.hosted) (sym c.if-has.true ∙ has) c.in_ok-notes.ensures (c.says.ensures v n old h)

pub returns : goal.returns
returns g c = λ v n h.
    let m = means g.K.Kind g.K.Registry in
    let old = c.args.state.rids.next in
    let hosted = c.in_ok-hosted.hosted in
    let has : c.has.result ≡ has_oid c.args.oid c.args.state.hosted = c.has.ensures ∙ ap (λ (s : StateOf m). has_oid c.args.oid s.hosted) (c.deref.ensures ∙ c.state.view_is) in
    let more : hosted ≡ with_oid c.args.oid c.args.state.hosted = c.in_ok-hosted.ensures ∙ ap (λ (s : StateOf m). with_oid c.args.oid s.hosted) (c.deref-2.ensures ∙ c.state.view_is) in
    let was : c.deref_mut.result.now ≡ c.args.state = c.deref_mut.ensures.value ∙ c.state-2.view_is in
    let now : record c.deref_mut-2.result.now { view = None } ≡ record c.args.state { hosted = hosted; view = None } =
    ap (λ (s : StateOf m). record s { view = None }) c.deref_mut-2.ensures.value ∙ ap (λ (s : StateOf m). record s { hosted = hosted; view = None }) was in
    let said = subst (λ (s : StateOf m). KeepsViewIf m s.view None → KeepsMoved m old c.says-2.result (moved m (idle m s None n) c.in_ok-notes.notes)) now (c.says-2.ensures None n old) tt in
    hosted_more m c.args.state v n old c.args.oid c.in_ok-notes.notes hosted c.says-2.result (has_oid c.args.oid c.args.state.hosted) (sym c.if-has.false ∙ has) c.in_ok-notes.ensures more said
