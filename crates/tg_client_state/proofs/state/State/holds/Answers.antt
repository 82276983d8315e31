use Rattle.std.specs.Prelude.{Some}
use Rattle.std.proofs.Common.{◌≡◌, sym, subst, ◌∙◌}
use Rattle.tg_play.proofs.Means.{means}
use Rattle.tg_protocol.specs.Answers.{holds}
use Rattle.tg_client_state.specs.Tasks.{told_task}
use Rattle.tg_client_state.specs.States.{StateOf, client_of, KeepsMoved}
use Rattle.tg_client_state.specs.declared.hand.Hand.TheVariants.{Doing}
use Rattle.tg_client_state.proofs.Held.{held}
use Rattle.tg_client_state.proofs.state.State.holds.Goals as goal

pub returns : goal.returns
returns g c = λ r w old begun le hv hj.
    let m = means g.K.Kind g.K.Registry in
    let was : c.deref_mut.result.now ≡ c.args.self = c.deref_mut.ensures.value ∙ c.state.view_is in
    subst (λ (s : StateOf m). KeepsMoved m old (record { state = record s { rids = c.args.begun.rids }; work = Some (record { job = c.args.job; hand = Doing c.in_ok-task.task }); sends = c.args.begun.sends; notes = c.args.notes })
    (holds m (client_of m c.args.self r) w (told_task m c.args.begun.machine) c.args.begun.rids.next c.args.notes)) (sym was) (held m c.args.self c.args.job c.args.begun c.in_ok-task.task c.args.notes r w old c.in_ok-task.ensures.ok begun le hv hj)
