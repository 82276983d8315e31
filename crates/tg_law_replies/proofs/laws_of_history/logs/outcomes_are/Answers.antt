use Rattle.tg_law_replies.proofs.History.Cells.{outcomes_are}
use Rattle.tg_law_replies.proofs.laws_of_history.logs.outcomes_are.Goals as goal

pub returns : goal.returns
returns g c = outcomes_are _
