use Rattle.std.proofs.Common.{Result, subst}
use Rattle.tg_play.proofs.Means.{means}
use Rattle.tg_protocol.specs.Checkpoints.{may_forget}
use Rattle.tg_ckpt.specs.Answers.{Forgets}
use Rattle.tg_ckpt.specs.declared.fault.ForgetFault.{ForgetFault}
use Rattle.tg_client_state.specs.States.{client_of}
use Rattle.tg_client_answers.proofs.Moving.{moves_same, marks_by}
use Rattle.tg_client_answers.proofs.marking.forgets.Goals as goal

pub returns-in-Ok : goal.returns-in-Ok
returns-in-Ok g c = λ r w old le hv hj.
    let m = means g.K.Kind g.K.Registry in
    let f = may_forget m c.args.entries.now c.args.oid c.args.mark in
    let none = subst (λ (x : Result (Unit {0}) ForgetFault). Forgets m c.args.oid x f) c.in-Ok.is c.may_forget.ensures in
    moves_same m c.marks.result old _ _ (marks_by m (client_of m c.args.state r) w c.args.oid c.args.mark f none) (c.marks.ensures r w old le hv hj)

pub returns-in-Err : goal.returns-in-Err
returns-in-Err g c = λ r w old le hv hj.
    let m = means g.K.Kind g.K.Registry in
    let f = may_forget m c.args.entries.now c.args.oid c.args.mark in
    let told = subst (λ (x : Result (Unit {0}) ForgetFault). Forgets m c.args.oid x f) c.in-Err.is c.may_forget.ensures in
    c.unmarked.ensures w c.args.oid c.args.mark f r old told hv
