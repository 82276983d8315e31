use Rattle.tg_law_walks.proofs.Lists.Telling.{entries_are_good}
use Rattle.tg_law_walks.proofs.laws_of_lists.entries_are_good.Goals as goal

pub returns : goal.returns
returns g c = entries_are_good _
