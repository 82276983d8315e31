use Rattle.tg_law_walks.proofs.Walks.Plays.{rounds_find_all}
use Rattle.tg_law_walks.proofs.laws_of_walks.finds.rounds_find_all.Goals as goal

pub returns : goal.returns
returns g c = rounds_find_all _
