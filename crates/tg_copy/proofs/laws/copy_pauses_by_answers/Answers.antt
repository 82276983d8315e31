use Rattle.tg_copy.proofs.CopyEnds.{copy_pauses_by_answers}
use Rattle.tg_copy.proofs.laws.copy_pauses_by_answers.Goals as goal

pub returns : goal.returns
returns c = copy_pauses_by_answers
