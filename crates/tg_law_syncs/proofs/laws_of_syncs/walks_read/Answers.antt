use Rattle.tg_law_syncs.proofs.Syncs.Confirming.{walks_read}
use Rattle.tg_law_syncs.proofs.laws_of_syncs.walks_read.Goals as goal

pub returns : goal.returns
returns g c = walks_read _
