use Rattle.std.proofs.Common.{◌≡◌, subst, ◌∙◌}
use Rattle.std.specs.Prelude.{IfOk}
use Rattle.tg_play.proofs.Means.{means}
use Rattle.tg_protocol.specs.ClientSteps.{on_reconf}
use Rattle.tg_client_state.specs.States.{StateOf, client_of, KeepsMoved}
use Rattle.tg_client_state.specs.Moves.{Holds}
use Rattle.tg_client_tasks.specs.Shown.{ReconfShown}
use Rattle.tg_client_tasks.proofs.Changed.{reconf_goes, reconf_learns, reconf_ends}
use Rattle.tg_protocol.specs.Clients.{Reconfiguring}
use Rattle.tg_client_tasks.proofs.changing.on_reconf.Goals as goal

pub returns-in-Goes : goal.returns-in-Goes
returns-in-Goes g c = λ r w old t h k.
    let m = means g.K.Kind g.K.Registry in
    let was : c.deref_mut.result.now ≡ c.args.state = c.deref_mut.ensures.value ∙ c.state.view_is in
    subst (λ (s : StateOf m). Holds m s c.args.job r w old → ReconfShown old s.rids.next c.args.rids.next c.args.step t → IfOk c.changes_on.result (λ x. KeepsMoved m old x (on_reconf m (client_of m s r) w t))) was
    (λ i l. reconf_goes m (λ z. IfOk c.changes_on.result (λ x. KeepsMoved m old x z)) c.deref_mut.result.now c.args.job c.args.rids c.args.step c.in-Goes.machine r w old t c.in-Goes.is i l
    (λ a b. c.changes_on.ensures r w old a b)) h k

pub returns-in_ok-reconf-in-Learns : goal.returns-in_ok-reconf-in-Learns
returns-in_ok-reconf-in-Learns g c = λ r w old t h k.
    let m = means g.K.Kind g.K.Registry in
    let was : c.deref_mut.result.now ≡ c.args.state = c.deref_mut.ensures.value ∙ c.state.view_is in
    subst (λ (s : StateOf m). Holds m s c.args.job r w old → ReconfShown old s.rids.next c.args.rids.next c.args.step t → IfOk c.learns.result (λ x. KeepsMoved m old x (on_reconf m (client_of m s r) w t))) was
    (λ i l. reconf_learns m (λ z. IfOk c.learns.result (λ x. KeepsMoved m old x z)) c.deref_mut.result.now c.args.job c.args.rids c.args.step c.in-Learns.machine c.in_ok-reconf-in-Learns.reconf r w old t c.in-Learns.is c.in_ok-reconf-in-Learns.ensures.ok i l
    (λ a b. c.learns.ensures r w old (Reconfiguring c.in-Learns.machine) a b)) h k

pub returns-in-Ends : goal.returns-in-Ends
returns-in-Ends g c = λ r w old t h k.
    let m = means g.K.Kind g.K.Registry in
    let was : c.deref_mut.result.now ≡ c.args.state = c.deref_mut.ensures.value ∙ c.state.view_is in
    subst (λ (s : StateOf m). Holds m s c.args.job r w old → ReconfShown old s.rids.next c.args.rids.next c.args.step t → IfOk c.reconf_ended.result (λ x. KeepsMoved m old x (on_reconf m (client_of m s r) w t))) was
    (λ i l. reconf_ends m (λ z. IfOk c.reconf_ended.result (λ x. KeepsMoved m old x z)) c.deref_mut.result.now c.args.job c.args.rids c.args.step c.in-Ends.end r w old t c.in-Ends.is i l
    (c.reconf_ended.ensures r old i.view)) h k
