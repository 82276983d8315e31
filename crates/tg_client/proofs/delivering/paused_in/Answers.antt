use Rattle.tg_play.proofs.Means.{means}
use Rattle.tg_client.proofs.Delivered.{paused_told, learning_told}
use Rattle.tg_client.proofs.delivering.paused_in.Goals as goal

pub returns-in-Doing : goal.returns-in-Doing
returns-in-Doing g c = λ h k. paused_told (means g.K.Kind g.K.Registry) c.args.hand h c.in-Doing.task c.into_inner.result c.pause.result c.into_inner.ensures c.in-Doing.is c.pause.ensures k

pub returns : goal.returns
returns g c = λ h k. learning_told (means g.K.Kind g.K.Registry) c.args.hand h c.in-Learning.waits c.in-Learning.paused c.into_inner-in-Learning.result c.into_inner-in-Learning.ensures c.in-Learning.is k
