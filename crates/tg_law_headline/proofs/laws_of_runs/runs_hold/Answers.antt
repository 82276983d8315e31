use Rattle.tg_law_headline.proofs.Runs.Holding.{runs_hold}
use Rattle.tg_law_headline.proofs.laws_of_runs.runs_hold.Goals as goal

pub returns : goal.returns
returns g = runs_hold
