use Rattle.std.proofs.Common.{◌≡◌, ap, subst, ◌∙◌}
use Rattle.std.specs.Prelude.{◌+◌}
use Rattle.tg_play.proofs.Means.{means}
use Rattle.tg_protocol.specs.Answers.{moved}
use Rattle.tg_client_state.specs.States.{StateOf, KeepsViewIf, KeepsMoved}
use Rattle.tg_client_tasks.specs.Idle.{idle}
use Rattle.tg_client_tasks.proofs.Ticking.{rested}
use Rattle.tg_client_tasks.proofs.ticks.rests.Goals as goal

pub returns : goal.returns
returns g c = λ d h.
    let m = means g.K.Kind g.K.Registry in
    let old = c.args.state.rids.next in
    let k = c.deref.result.now.calls + 1 in
    let calls : k ≡ c.args.state.calls + 1 = ap (λ (s : StateOf m). s.calls + 1) (c.deref.ensures ∙ c.state.view_is) in
    let was : c.deref_mut.result.now ≡ c.args.state = c.deref_mut.ensures.value ∙ c.state-2.view_is in
    let said = subst (λ (s : StateOf m). KeepsViewIf m s.view d.view → KeepsMoved m old c.says.result (moved m (idle m (record s { calls = k }) d.view d.played) c.new.result)) was (c.says.ensures d.view d.played old) h.view in
    rested m c.args.state d k c.new.result c.says.result calls c.new.ensures h said
