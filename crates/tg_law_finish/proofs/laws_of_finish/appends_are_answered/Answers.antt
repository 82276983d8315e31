use Rattle.tg_law_finish.proofs.Finish.Answered.{appends_are_answered}
use Rattle.tg_law_finish.proofs.laws_of_finish.appends_are_answered.Goals as goal

pub returns : goal.returns
returns g c = appends_are_answered _
