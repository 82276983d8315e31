use Rattle.tg_law_walks.proofs.Walks.Turns.{walks_start}
use Rattle.tg_law_walks.proofs.laws_of_walks.walks_start.Goals as goal

pub returns : goal.returns
returns c = walks_start
