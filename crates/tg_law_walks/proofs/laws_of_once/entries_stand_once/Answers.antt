use Rattle.tg_law_walks.proofs.Once.Once.{entries_stand_once}
use Rattle.tg_law_walks.proofs.laws_of_once.entries_stand_once.Goals as goal

pub returns : goal.returns
returns g c = entries_stand_once _
