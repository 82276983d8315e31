use Rattle.std.proofs.Common.{◌≡◌, [], subst, ◌∙◌}
use Rattle.std.specs.Prelude.{IfOk}
use Rattle.tg_play.proofs.Means.{means}
use Rattle.tg_protocol.specs.Reconfiguring.{Reconf}
use Rattle.tg_protocol.specs.Clients.{Reconfiguring}
use Rattle.tg_protocol.specs.ClientSteps.{goes_on}
use Rattle.tg_client_state.specs.States.{StateOf, client_of, KeepsMoved}
use Rattle.tg_client_state.specs.Moves.{Holds, Carries}
use Rattle.tg_client_tasks.proofs.Starting.{change_goes}
use Rattle.tg_client_tasks.proofs.changing.changes_on.Goals as goal

pub returns : goal.returns
returns g c = λ r w old h k.
    let m = means g.K.Kind g.K.Registry in
    let q = c.in_ok-stand.stand in
    let was : c.deref_mut.result.now ≡ c.args.state = c.deref_mut.ensures.value ∙ c.state.view_is in
    let boxed = subst (λ (a : Reconf). Holds m (record c.deref_mut.result.now { stand = q }) c.args.job r w old → Carries m (record c.deref_mut.result.now { stand = q }) (Reconfiguring a) old [] c.args.outs → IfOk c.goes_on.result (λ x. KeepsMoved m old x (goes_on m (client_of m (record c.deref_mut.result.now { stand = q }) r) w (Reconfiguring a) []))) c.in_ok-reconf.ensures.ok
    (λ i l. c.goes_on.ensures r w old [] i l) in
    let goes = subst (λ (s : StateOf m). Holds m (record s { stand = q }) c.args.job r w old → Carries m (record s { stand = q }) (Reconfiguring c.args.reconf) old [] c.args.outs → IfOk c.goes_on.result (λ x. KeepsMoved m old x (goes_on m (client_of m (record s { stand = q }) r) w (Reconfiguring c.args.reconf) []))) was boxed in
    change_goes m (λ z. IfOk c.goes_on.result (λ x. KeepsMoved m old x z)) c.args.state c.args.job q r w old c.args.reconf c.args.outs (c.in_ok-stand.ensures ∙ c.stand.ensures) h k
    goes
