use Rattle.tg_law_finish.proofs.Finish.Answered.{appends_in_time}
use Rattle.tg_law_finish.proofs.laws_of_finish.appends_are_answered_in_time.Goals as goal

pub returns : goal.returns
returns g c = appends_in_time _
