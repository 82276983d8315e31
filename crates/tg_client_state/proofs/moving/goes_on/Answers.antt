use Rattle.std.proofs.Common.{ap}
use Rattle.tg_play.proofs.Means.{means}
use Rattle.tg_client_state.specs.Tasks.{TaskOf, told_task}
use Rattle.tg_client_state.specs.declared.hand.Hand.TheVariants as hand
use Rattle.tg_client_state.proofs.Waiting.{went}
use Rattle.tg_client_state.proofs.moving.goes_on.Goals as goal

pub returns : goal.returns
returns g c = λ r w old besides h k.
    let m = means g.K.Kind g.K.Registry in
    went m c.args.state c.args.job (hand.Doing c.in_ok-task.task) (told_task m c.args.task) r w old besides c.args.sends c.new-2.result (ap (λ (t : TaskOf m). told_task m t) c.in_ok-task.ensures.ok) c.new-2.ensures h k
