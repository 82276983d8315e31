use Rattle.tg_law_walks.proofs.Once.Known.{records_were_left}
use Rattle.tg_law_walks.proofs.laws_of_once.records_were_left.Goals as goal

pub returns : goal.returns
returns g c = records_were_left _
