use Rattle.tg_law_finish.proofs.Finish.Answered.{asks_are_answered}
use Rattle.tg_law_finish.proofs.laws_of_finish.asks_are_answered.Goals as goal

pub returns : goal.returns
returns g c = asks_are_answered _
