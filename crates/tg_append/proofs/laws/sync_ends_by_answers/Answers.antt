use Rattle.tg_append.proofs.SyncEnds.{sync_ends_by_answers}
use Rattle.tg_append.proofs.laws.sync_ends_by_answers.Goals as goal

pub returns : goal.returns
returns c = sync_ends_by_answers
