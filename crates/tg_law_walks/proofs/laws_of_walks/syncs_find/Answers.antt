use Rattle.tg_law_walks.proofs.Walks.Commands.{syncs_find}
use Rattle.tg_law_walks.proofs.laws_of_walks.syncs_find.Goals as goal

pub returns : goal.returns
returns g c = syncs_find _
