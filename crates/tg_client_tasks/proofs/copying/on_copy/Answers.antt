use Rattle.std.proofs.Common.{◌≡◌, sym, subst, ◌∙◌}
use Rattle.std.specs.Prelude.{IfOk, [], ◌∷◌}
use Rattle.tg_play.proofs.Means.{means}
use Rattle.tg_protocol.specs.ClientSteps.{on_copy}
use Rattle.tg_client_state.specs.States.{StateOf, client_of, KeepsMoved}
use Rattle.tg_client_state.specs.Moves.{Holds}
use Rattle.tg_client_tasks.specs.Shown.{CopyShown}
use Rattle.tg_client_tasks.proofs.Copied.{copy_goes, copy_learns, copy_ends}
use Rattle.tg_base.specs.declared.change.Join.{Join}
use Rattle.tg_model.specs.declared.trace.What.TheVariants.{Copied}
use Rattle.tg_protocol.specs.Answers.{note, replies}
use Rattle.tg_client_tasks.proofs.copying.on_copy.Goals as goal

pub returns-in-Goes : goal.returns-in-Goes
returns-in-Goes g c = λ r w old b t h e k.
    let m = means g.K.Kind g.K.Registry in
    let was : c.deref_mut.result.now ≡ c.args.state = c.deref_mut.ensures.value ∙ c.state.view_is in
    subst (λ (s : StateOf m). Holds m s c.args.job r w old → CopyShown old s.stand s.rids.next c.args.rids.next c.args.step t → IfOk c.goes_on.result (λ x. KeepsMoved m old x (on_copy m (client_of m s r) w b t))) was
    (λ i l. copy_goes m (λ z. IfOk c.goes_on.result (λ x. KeepsMoved m old x z)) c.deref_mut.result.now c.args.job c.meets-job.result b c.args.rids c.args.step c.in-Goes.machine r w old t c.in-Goes.is c.meets-job.ensures i l
    (λ a d. c.goes_on.ensures r _ old [] a d)) h k

pub returns-in-Learns : goal.returns-in-Learns
returns-in-Learns g c = λ r w old b t h e k.
    let m = means g.K.Kind g.K.Registry in
    let was : c.deref_mut.result.now ≡ c.args.state = c.deref_mut.ensures.value ∙ c.state.view_is in
    subst (λ (s : StateOf m). Holds m s c.args.job r w old → CopyShown old s.stand s.rids.next c.args.rids.next c.args.step t → IfOk c.learns.result (λ x. KeepsMoved m old x (on_copy m (client_of m s r) w b t))) was
    (λ i l. copy_learns m (λ z. IfOk c.learns.result (λ x. KeepsMoved m old x z)) c.deref_mut.result.now c.args.job c.meets-job.result b c.args.rids c.args.step c.in-Learns.paused r w old t c.in-Learns.is c.meets-job.ensures i l
    (λ u a d. c.learns.ensures r _ old u a d)) h k

pub returns-in-Ends : goal.returns-in-Ends
returns-in-Ends g c = λ r w old b t h e k.
    let m = means g.K.Kind g.K.Registry in
    let was : c.deref_mut.result.now ≡ c.args.state = c.deref_mut.ensures.value ∙ c.state.view_is in
    subst (λ (s : StateOf m). Holds m s c.args.job r w old → CopyShown old s.stand s.rids.next c.args.rids.next c.args.step t → IfOk c.copied.result (λ x. KeepsMoved m old x (on_copy m (client_of m s r) w b t))) was
    (λ i l. copy_ends m (λ z. IfOk c.copied.result (λ x. KeepsMoved m old x z)) c.deref_mut.result.now c.args.job c.meets-job.result b c.args.rids c.args.step c.in-Ends.end r w old t c.in-Ends.is c.meets-job.ensures i l
    (λ a. subst (λ (j : Join). IfOk c.copied.result (λ x. KeepsMoved m old x (replies m (client_of m (record c.deref_mut.result.now { rids = c.args.rids }) r) (note m 0 (Copied j.unit j.range j.stripe) ∷ [])))) (sym e) (c.copied.ensures r old a.view))) h k
