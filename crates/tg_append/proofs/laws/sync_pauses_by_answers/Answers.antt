use Rattle.tg_append.proofs.SyncEnds.{sync_pauses_by_answers}
use Rattle.tg_append.proofs.laws.sync_pauses_by_answers.Goals as goal

pub returns : goal.returns
returns c = sync_pauses_by_answers
