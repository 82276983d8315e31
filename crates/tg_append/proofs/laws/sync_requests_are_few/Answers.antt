use Rattle.tg_append.proofs.SyncCounts.{sync_requests_are_few}
use Rattle.tg_append.proofs.laws.sync_requests_are_few.Goals as goal

pub returns : goal.returns
returns c = sync_requests_are_few
