use Rattle.tg_play.proofs.Means.{means}
use Rattle.tg_client.proofs.Bounded.{doing_few}
use Rattle.tg_client.proofs.few.hand_asks_few.Goals as goal

pub returns-in-Doing : goal.returns-in-Doing
returns-in-Doing g c = λ h r k is. doing_few (means g.K.Kind g.K.Registry) c.args.hand.now h c.in-Doing.task c.deref.result.now c.deref.ensures c.in-Doing.is c.task_asks_few.ensures k r is
