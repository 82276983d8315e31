use Rattle.tg_law_walks.proofs.Walks.Commands.{syncs_come_on}
use Rattle.tg_law_walks.proofs.laws_of_walks.syncs_come.Goals as goal

pub returns : goal.returns
returns g c = syncs_come_on _
