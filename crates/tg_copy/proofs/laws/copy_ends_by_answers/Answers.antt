use Rattle.tg_copy.proofs.CopyEnds.{copy_ends_by_answers}
use Rattle.tg_copy.proofs.laws.copy_ends_by_answers.Goals as goal

pub returns : goal.returns
returns c = copy_ends_by_answers
