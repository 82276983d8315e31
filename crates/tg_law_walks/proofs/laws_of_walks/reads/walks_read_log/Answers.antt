use Rattle.tg_law_walks.proofs.Walks.Reading.{walks_read_log}
use Rattle.tg_law_walks.proofs.laws_of_walks.reads.walks_read_log.Goals as goal

pub returns : goal.returns
returns g c = walks_read_log _
