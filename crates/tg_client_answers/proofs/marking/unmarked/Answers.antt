use Rattle.std.proofs.Common.{Err, subst}
use Rattle.tg_play.proofs.Means.{means}
use Rattle.tg_ckpt.specs.Answers.{Forgets}
use Rattle.tg_ckpt.specs.declared.fault.ForgetFault.{ForgetFault}
use Rattle.tg_client_state.specs.States.{client_of}
use Rattle.tg_client_answers.proofs.Moving.{moves_same, no_checkpoint_by, open_by}
use Rattle.tg_client_answers.proofs.marking.unmarked.Goals as goal

pub returns-in-NoCheckpoint : goal.returns-in-NoCheckpoint
returns-in-NoCheckpoint g c = λ w o n f r old h hv.
    let m = means g.K.Kind g.K.Registry in
    let told = subst (λ (x : ForgetFault). Forgets m {A = Unit {0}} o (Err x) f) c.in-NoCheckpoint.is h in
    moves_same m c.refuses.result old _ _ (no_checkpoint_by m (client_of m c.args.state r) w o c.in-NoCheckpoint.oid n f told.0 told.1) (c.refuses.ensures r old hv)

pub returns-in-OpenDecision : goal.returns-in-OpenDecision
returns-in-OpenDecision g c = λ w o n f r old h hv.
    let m = means g.K.Kind g.K.Registry in
    let told = subst (λ (x : ForgetFault). Forgets m {A = Unit {0}} o (Err x) f) c.in-OpenDecision.is h in
    moves_same m c.refuses-in-OpenDecision.result old _ _ (open_by m (client_of m c.args.state r) w o n c.in-OpenDecision.pos f told) (c.refuses-in-OpenDecision.ensures r old hv)
