use Rattle.tg_law_walks.proofs.Lists.Runs.{lists_are_known}
use Rattle.tg_law_walks.proofs.laws_of_lists.lists_are_known.Goals as goal

pub returns : goal.returns
returns g c = lists_are_known _
