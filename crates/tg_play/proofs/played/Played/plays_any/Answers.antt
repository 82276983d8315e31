use Rattle.tg_play.proofs.Hosting.{objects_in}
use Rattle.tg_play.proofs.played.Played.plays_any.Goals as goal

pub returns : goal.returns
returns g c = λ v k. c.plays_any.ensures v (objects_in _ _ _ v c.self.view_is k)
