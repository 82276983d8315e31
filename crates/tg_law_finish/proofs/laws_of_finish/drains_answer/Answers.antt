use Rattle.tg_law_finish.proofs.Finish.Answered.{drains_answer}
use Rattle.tg_law_finish.proofs.laws_of_finish.drains_answer.Goals as goal

pub returns : goal.returns
returns g c = drains_answer _
