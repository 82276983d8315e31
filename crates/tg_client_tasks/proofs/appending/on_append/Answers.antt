use Rattle.std.proofs.Common.{◌≡◌, subst, ◌∙◌}
use Rattle.std.specs.Prelude.{IfOk}
use Rattle.tg_play.proofs.Means.{means}
use Rattle.tg_protocol.specs.ClientSteps.{on_append}
use Rattle.tg_client_state.specs.States.{StateOf, client_of, KeepsMoved}
use Rattle.tg_client_state.specs.Moves.{Holds}
use Rattle.tg_client_tasks.specs.Shown.{AppendShown}
use Rattle.tg_client_tasks.proofs.Appended.{append_goes, append_learns, append_ends}
use Rattle.tg_client_state.specs.Tasks.{told_purpose}
use Rattle.tg_client_tasks.proofs.appending.on_append.Goals as goal

pub returns-in-Goes : goal.returns-in-Goes
returns-in-Goes g c = λ r w old t h k.
    let m = means g.K.Kind g.K.Registry in
    let was : c.deref_mut.result.now ≡ c.args.state = c.deref_mut.ensures.value ∙ c.state.view_is in
    subst (λ (s : StateOf m). Holds m s c.args.job r w old → AppendShown old s.stand s.rids.next c.args.rids.next c.args.step t → IfOk c.goes_on.result (λ x. KeepsMoved m old x (on_append m (client_of m s r) w (told_purpose m c.args.purpose) t))) was
    (λ i l. append_goes m (λ z. IfOk c.goes_on.result (λ x. KeepsMoved m old x z)) c.deref_mut.result.now c.args.job c.meets-job.result c.args.rids c.args.step c.in-Goes.machine c.args.purpose r w old t c.in-Goes.is c.meets-job.ensures i l
    (λ besides a b. c.goes_on.ensures r _ old besides a b)) h k

pub returns-in-Learns : goal.returns-in-Learns
returns-in-Learns g c = λ r w old t h k.
    let m = means g.K.Kind g.K.Registry in
    let was : c.deref_mut.result.now ≡ c.args.state = c.deref_mut.ensures.value ∙ c.state.view_is in
    subst (λ (s : StateOf m). Holds m s c.args.job r w old → AppendShown old s.stand s.rids.next c.args.rids.next c.args.step t → IfOk c.learns.result (λ x. KeepsMoved m old x (on_append m (client_of m s r) w (told_purpose m c.args.purpose) t))) was
    (λ i l. append_learns m (λ z. IfOk c.learns.result (λ x. KeepsMoved m old x z)) c.deref_mut.result.now c.args.job c.meets-job.result c.args.rids c.args.step c.in-Learns.paused c.args.purpose r w old t c.in-Learns.is c.meets-job.ensures i l
    (λ u a b. c.learns.ensures r _ old u a b)) h k

pub returns-in-Ends : goal.returns-in-Ends
returns-in-Ends g c = λ r w old t h k.
    let m = means g.K.Kind g.K.Registry in
    let was : c.deref_mut.result.now ≡ c.args.state = c.deref_mut.ensures.value ∙ c.state.view_is in
    subst (λ (s : StateOf m). Holds m s c.args.job r w old → AppendShown old s.stand s.rids.next c.args.rids.next c.args.step t → IfOk c.append_ended.result (λ x. KeepsMoved m old x (on_append m (client_of m s r) w (told_purpose m c.args.purpose) t))) was
    (λ i l. append_ends m (λ z. IfOk c.append_ended.result (λ x. KeepsMoved m old x z)) c.deref_mut.result.now c.args.job c.meets-job.result c.args.rids c.args.step c.in-Ends.end c.args.purpose r w old t c.in-Ends.is c.meets-job.ensures i l
    (λ a. c.append_ended.ensures r _ old a)) h k
