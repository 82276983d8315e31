use Rattle.tg_law_walks.proofs.Walks.Commands.{syncs_come_again}
use Rattle.tg_law_walks.proofs.laws_of_walks.syncs_come_again.Goals as goal

pub returns : goal.returns
returns g c = syncs_come_again _
