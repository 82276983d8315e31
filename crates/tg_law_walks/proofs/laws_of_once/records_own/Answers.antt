use Rattle.tg_law_walks.proofs.Once.Owning.{records_own}
use Rattle.tg_law_walks.proofs.laws_of_once.records_own.Goals as goal

pub returns : goal.returns
returns g c = records_own _
