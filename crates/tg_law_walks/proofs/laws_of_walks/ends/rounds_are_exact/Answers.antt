use Rattle.tg_law_walks.proofs.Walks.Ending.{rounds_exact}
use Rattle.tg_law_walks.proofs.laws_of_walks.ends.rounds_are_exact.Goals as goal

pub returns : goal.returns
returns g c = rounds_exact _
