use Rattle.tg_play.proofs.Hosting.{objects_in}
use Rattle.tg_play.proofs.played.Played.verdict.Goals as goal

pub returns : goal.returns
returns g c = λ v e k same. c.verdict.ensures v e (objects_in _ _ _ v c.self.view_is k) same
