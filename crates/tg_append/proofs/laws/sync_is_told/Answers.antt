use Rattle.tg_append.proofs.SyncKept.{sync_is_told}
use Rattle.tg_append.proofs.laws.sync_is_told.Goals as goal

pub returns : goal.returns
returns c = sync_is_told
