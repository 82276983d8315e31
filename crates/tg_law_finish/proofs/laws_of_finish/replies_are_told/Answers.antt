use Rattle.tg_law_finish.proofs.Finish.Answered.{replies_are_told}
use Rattle.tg_law_finish.proofs.laws_of_finish.replies_are_told.Goals as goal

pub returns : goal.returns
returns g c = replies_are_told _
