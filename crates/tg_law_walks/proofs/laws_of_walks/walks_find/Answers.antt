use Rattle.tg_law_walks.proofs.Walks.Commands.{walks_find}
use Rattle.tg_law_walks.proofs.laws_of_walks.walks_find.Goals as goal

pub returns : goal.returns
returns g c = walks_find _
