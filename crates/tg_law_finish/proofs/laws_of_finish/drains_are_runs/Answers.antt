use Rattle.tg_law_finish.proofs.Finish.Drains.{drains_are_runs}
use Rattle.tg_law_finish.proofs.laws_of_finish.drains_are_runs.Goals as goal

pub returns : goal.returns
returns g c = drains_are_runs _
