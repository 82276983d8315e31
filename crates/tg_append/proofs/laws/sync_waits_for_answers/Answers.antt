use Rattle.tg_append.proofs.SyncWaits.{sync_waits_for_answers}
use Rattle.tg_append.proofs.laws.sync_waits_for_answers.Goals as goal

pub returns : goal.returns
returns c = sync_waits_for_answers
