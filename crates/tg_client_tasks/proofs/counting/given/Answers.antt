use Rattle.std.proofs.Common.{◌≡◌, ap, sym, subst, ◌∙◌}
use Rattle.std.specs.Prelude.{◌+◌}
use Rattle.tg_play.proofs.Means.{means}
use Rattle.tg_protocol.specs.ClientSteps.{given}
use Rattle.tg_client_state.specs.States.{StateOf}
use Rattle.tg_client_tasks.specs.Steps.{KeepsStep}
use Rattle.tg_client_tasks.proofs.Stepping.{stepped}
use Rattle.tg_client_tasks.proofs.counting.given.Goals as goal

pub returns : goal.returns
returns g c = λ d x old hn h.
    let m = means g.K.Kind g.K.Registry in
    let k = c.deref.result.now.calls + 1 in
    let was : c.deref_mut.result.now ≡ c.args.moved.state = c.deref_mut.ensures.value ∙ c.state-2.view_is in
    let calls : k ≡ c.args.moved.state.calls + 1 = ap (λ (s : StateOf m). s.calls + 1) (c.deref.ensures ∙ c.state.view_is) in
    subst (λ (s : StateOf m). KeepsStep m (record { state = record s { calls = k }; work = c.args.moved.work; sends = c.args.moved.sends; notes = c.args.moved.notes }) (given m d x)) (sym was)
    (stepped m c.args.moved k d x old calls hn h)
