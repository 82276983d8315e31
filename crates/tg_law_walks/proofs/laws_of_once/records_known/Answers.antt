use Rattle.tg_law_walks.proofs.Once.Known.{records_known}
use Rattle.tg_law_walks.proofs.laws_of_once.records_known.Goals as goal

pub returns : goal.returns
returns g c = records_known _
