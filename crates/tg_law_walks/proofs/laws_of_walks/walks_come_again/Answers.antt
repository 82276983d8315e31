use Rattle.tg_law_walks.proofs.Walks.Commands.{walks_come_again}
use Rattle.tg_law_walks.proofs.laws_of_walks.walks_come_again.Goals as goal

pub returns : goal.returns
returns g c = walks_come_again _
