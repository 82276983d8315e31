use Rattle.tg_law_walks.proofs.Walks.Commands.{syncs_begin}
use Rattle.tg_law_walks.proofs.laws_of_walks.syncs_begin.Goals as goal

pub returns : goal.returns
returns g c = syncs_begin _
