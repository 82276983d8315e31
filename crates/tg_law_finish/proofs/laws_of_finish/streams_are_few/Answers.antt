use Rattle.tg_law_finish.proofs.Finish.Answered.{streams_are_few}
use Rattle.tg_law_finish.proofs.laws_of_finish.streams_are_few.Goals as goal

pub returns : goal.returns
returns g c = streams_are_few _
