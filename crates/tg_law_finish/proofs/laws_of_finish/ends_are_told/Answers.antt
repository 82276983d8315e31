use Rattle.tg_law_finish.proofs.Finish.Answered.{ends_are_told}
use Rattle.tg_law_finish.proofs.laws_of_finish.ends_are_told.Goals as goal

pub returns : goal.returns
returns g c = ends_are_told _
