use Rattle.tg_append.proofs.SyncKept.{syncs_keep}
use Rattle.tg_append.proofs.laws.syncs_keep.Goals as goal

pub returns : goal.returns
returns c = syncs_keep
