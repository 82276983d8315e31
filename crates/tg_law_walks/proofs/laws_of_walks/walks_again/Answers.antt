use Rattle.tg_law_walks.proofs.Walks.Turns.{walks_again}
use Rattle.tg_law_walks.proofs.laws_of_walks.walks_again.Goals as goal

pub returns : goal.returns
returns c = walks_again
