use Rattle.tg_law_headline.proofs.Runs.Holding.{logs_hold}
use Rattle.tg_law_headline.proofs.laws_of_runs.logs_hold.Goals as goal

pub returns : goal.returns
returns g = logs_hold
