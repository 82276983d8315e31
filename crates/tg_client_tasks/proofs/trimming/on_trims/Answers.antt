use Rattle.std.proofs.Common.{◌≡◌, subst, ◌∙◌}
use Rattle.std.specs.Prelude.{IfOk, []}
use Rattle.tg_play.proofs.Means.{means}
use Rattle.tg_protocol.specs.ClientSteps.{on_trims}
use Rattle.tg_client_state.specs.States.{StateOf, client_of, KeepsMoved}
use Rattle.tg_client_state.specs.Moves.{Holds}
use Rattle.tg_client_tasks.specs.Shown.{TrimShown}
use Rattle.tg_client_tasks.proofs.Trimmed.{trim_goes, trim_learns, trim_ends}
use Rattle.tg_client_tasks.proofs.trimming.on_trims.Goals as goal

pub returns-in-Goes : goal.returns-in-Goes
returns-in-Goes g c = λ r w old t h k.
    let m = means g.K.Kind g.K.Registry in
    let was : c.deref_mut.result.now ≡ c.args.state = c.deref_mut.ensures.value ∙ c.state.view_is in
    subst (λ (s : StateOf m). Holds m s c.args.job r w old → TrimShown old s.stand s.rids.next c.args.rids.next c.args.step t → IfOk c.goes_on.result (λ x. KeepsMoved m old x (on_trims m (client_of m s r) w c.args.below t))) was
    (λ i l. trim_goes m (λ z. IfOk c.goes_on.result (λ x. KeepsMoved m old x z)) c.deref_mut.result.now c.args.job c.meets-job.result c.args.below c.args.rids c.args.step c.in-Goes.machine r w old t c.in-Goes.is c.meets-job.ensures i l
    (λ a b. c.goes_on.ensures r _ old [] a b)) h k

pub returns-in-Learns : goal.returns-in-Learns
returns-in-Learns g c = λ r w old t h k.
    let m = means g.K.Kind g.K.Registry in
    let was : c.deref_mut.result.now ≡ c.args.state = c.deref_mut.ensures.value ∙ c.state.view_is in
    subst (λ (s : StateOf m). Holds m s c.args.job r w old → TrimShown old s.stand s.rids.next c.args.rids.next c.args.step t → IfOk c.learns.result (λ x. KeepsMoved m old x (on_trims m (client_of m s r) w c.args.below t))) was
    (λ i l. trim_learns m (λ z. IfOk c.learns.result (λ x. KeepsMoved m old x z)) c.deref_mut.result.now c.args.job c.meets-job.result c.args.below c.args.rids c.args.step c.in-Learns.paused r w old t c.in-Learns.is c.meets-job.ensures i l
    (λ u a b. c.learns.ensures r _ old u a b)) h k

pub returns-in-Ends : goal.returns-in-Ends
returns-in-Ends g c = λ r w old t h k.
    let m = means g.K.Kind g.K.Registry in
    let was : c.deref_mut.result.now ≡ c.args.state = c.deref_mut.ensures.value ∙ c.state.view_is in
    subst (λ (s : StateOf m). Holds m s c.args.job r w old → TrimShown old s.stand s.rids.next c.args.rids.next c.args.step t → IfOk c.answers.result (λ x. KeepsMoved m old x (on_trims m (client_of m s r) w c.args.below t))) was
    (λ i l. trim_ends m (λ z. IfOk c.answers.result (λ x. KeepsMoved m old x z)) c.deref_mut.result.now c.args.job c.meets-job.result c.args.below c.args.rids c.args.step c.in-Ends.end r w old t c.in-Ends.is c.meets-job.ensures i l
    (λ a. c.answers.ensures r old a.view)) h k
