use Rattle.std.proofs.Common.{◌≡◌, Some, sym, ap, subst, ◌∙◌}
use Rattle.std.specs.Prelude.{◌+◌}
use Rattle.tg_play.proofs.Means.{means}
use Rattle.tg_protocol.specs.ClientSteps.{client_tick}
use Rattle.tg_client_state.specs.States.{StateOf}
use Rattle.tg_client_tasks.specs.Steps.{KeepsStep}
use Rattle.tg_client_tasks.proofs.Ticking.{ticked}
use Rattle.tg_client_tasks.proofs.ticks.asked.Goals as goal

pub returns : goal.returns
returns g c = λ d dr h.
    let m = means g.K.Kind g.K.Registry in
    let k = c.deref.result.now.calls + 1 in
    let calls : k ≡ c.args.state.calls + 1 = ap (λ (s : StateOf m). s.calls + 1) (c.deref.ensures ∙ c.state.view_is) in
    let was : c.deref_mut.result.now ≡ c.args.state = c.deref_mut.ensures.value ∙ c.state-2.view_is in
    let now : record c.deref_mut-2.result.now { calls = k } ≡ record c.args.state { rids = c.args.rids; calls = k } =
    ap (λ (s : StateOf m). record s { calls = k }) c.deref_mut-2.ensures.value ∙ ap (λ (s : StateOf m). record s { rids = c.args.rids; calls = k }) was in
    subst (λ (s : StateOf m). KeepsStep m (record { state = s; work = Some c.args.work; sends = c.args.sends; notes = c.new.result }) (client_tick m d)) (sym now)
    (ticked m c.args.state c.args.work d c.args.rids.next k c.args.sends c.new.result calls c.new.ensures dr h)
