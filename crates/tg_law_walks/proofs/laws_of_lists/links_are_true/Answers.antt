use Rattle.tg_law_walks.proofs.Lists.Telling.{links_are_true}
use Rattle.tg_law_walks.proofs.laws_of_lists.links_are_true.Goals as goal

pub returns : goal.returns
returns g c = links_are_true _
