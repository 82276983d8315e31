use Rattle.std.specs.Prelude.{◌+◌}
use Rattle.std.proofs.Common.{◌≡◌, sym, ap, subst, ◌∙◌}
use Rattle.tg_play.proofs.Means.{means}
use Rattle.tg_protocol.specs.ClientSteps.{learns_for}
use Rattle.tg_protocol.specs.Requests.{waits_for}
use Rattle.tg_protocol.specs.Words.{numbers}
use Rattle.tg_client_state.specs.States.{StateOf, MovedOf, client_of, KeepsMoved}
use Rattle.tg_client_state.proofs.Waiting.{learnt}
use Rattle.tg_client_state.proofs.moving.learns.Goals as goal

pub returns : goal.returns
returns g c = λ r w old t h l.
    let m = means g.K.Kind g.K.Registry in
    let first : c.deref.result.now ≡ c.args.state = c.deref.ensures ∙ c.state.view_is in
    let second : c.deref-2.result.now ≡ c.args.state = c.deref-2.ensures ∙ c.state.view_is in
    subst (λ (y : MovedOf m). KeepsMoved m old y (learns_for m (client_of m c.args.state r) w t)) (sym c.waits_for_layout.ensures)
    (learnt m c.args.state c.args.job c.args.paused c.in_ok-paused.paused c.in_ok-asked.asked.waits c.in_ok-asked.asked.rids.next t r w old c.in_ok-asked.asked.sends
    c.in_ok-paused.ensures.ok (c.in_ok-asked.ensures.waits ∙ ap (λ (s : StateOf m). waits_for (numbers s.layouts 0) c.deref-2.result.now.rids.next) first ∙ ap (λ (s : StateOf m). waits_for (numbers c.args.state.layouts 0) s.rids.next) second)
    (c.in_ok-asked.ensures.next ∙ ap (λ (s : StateOf m). c.deref-2.result.now.rids.next + s.layouts) first ∙ ap (λ (s : StateOf m). s.rids.next + c.args.state.layouts) second) c.in_ok-asked.ensures.sends h l)
