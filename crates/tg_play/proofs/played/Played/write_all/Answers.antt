use Rattle.tg_play.proofs.Hosting.{objects_in}
use Rattle.tg_play.proofs.played.Played.write_all.Goals as goal

pub returns-clause-objects : goal.returns-clause-objects
returns-clause-objects g c = λ v k. c.in_ok-write_all.ensures.objects v (objects_in _ _ _ v c.self.view_is k)
