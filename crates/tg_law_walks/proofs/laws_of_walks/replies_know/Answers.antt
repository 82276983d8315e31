use Rattle.tg_law_walks.proofs.Walks.Commands.{replies_know}
use Rattle.tg_law_walks.proofs.laws_of_walks.replies_know.Goals as goal

pub returns : goal.returns
returns g c = replies_know _
