use Rattle.tg_law_finish.proofs.Finish.Answered.{asks_in_time}
use Rattle.tg_law_finish.proofs.laws_of_finish.asks_are_answered_in_time.Goals as goal

pub returns : goal.returns
returns g c = asks_in_time _
