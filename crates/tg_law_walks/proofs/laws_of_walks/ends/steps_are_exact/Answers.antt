use Rattle.tg_law_walks.proofs.Walks.Ending.{steps_exact}
use Rattle.tg_law_walks.proofs.laws_of_walks.ends.steps_are_exact.Goals as goal

pub returns : goal.returns
returns g c = steps_exact _
