use Rattle.tg_law_syncs.proofs.Syncs.Confirming.{syncs_confirm}
use Rattle.tg_law_syncs.proofs.laws_of_syncs.syncs_confirm.Goals as goal

pub returns : goal.returns
returns g c = syncs_confirm _
