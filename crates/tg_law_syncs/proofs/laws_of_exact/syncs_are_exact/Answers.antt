use Rattle.tg_law_syncs.proofs.Exact.Exact.{syncs_exact}
use Rattle.tg_law_syncs.proofs.laws_of_exact.syncs_are_exact.Goals as goal

pub returns : goal.returns
returns g c = syncs_exact _
