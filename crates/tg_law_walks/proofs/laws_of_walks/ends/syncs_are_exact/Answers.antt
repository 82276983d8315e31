use Rattle.tg_law_walks.proofs.Walks.Ending.{syncs_exact_where}
use Rattle.tg_law_walks.proofs.laws_of_walks.ends.syncs_are_exact.Goals as goal

pub returns : goal.returns
returns g c = syncs_exact_where _
