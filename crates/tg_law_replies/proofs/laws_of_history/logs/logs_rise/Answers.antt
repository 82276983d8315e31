use Rattle.tg_law_replies.proofs.History.Cells.{logs_rise}
use Rattle.tg_law_replies.proofs.laws_of_history.logs.logs_rise.Goals as goal

pub returns : goal.returns
returns g c = logs_rise _
