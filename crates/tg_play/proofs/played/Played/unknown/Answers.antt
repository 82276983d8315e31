use Rattle.tg_play.proofs.Hosting.{objects_in}
use Rattle.tg_play.proofs.played.Played.unknown.Goals as goal

pub returns : goal.returns
returns g c = λ v k. c.unknown.ensures v (objects_in _ _ _ v c.self.view_is k)
