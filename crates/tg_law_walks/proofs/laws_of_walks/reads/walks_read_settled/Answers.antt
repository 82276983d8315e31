use Rattle.tg_law_walks.proofs.Walks.Reading.{walks_read_settled}
use Rattle.tg_law_walks.proofs.laws_of_walks.reads.walks_read_settled.Goals as goal

pub returns : goal.returns
returns g c = walks_read_settled _
