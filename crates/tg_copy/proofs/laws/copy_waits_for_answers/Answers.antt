use Rattle.tg_copy.proofs.Waits.{copy_waits_for_answers}
use Rattle.tg_copy.proofs.laws.copy_waits_for_answers.Goals as goal

pub returns : goal.returns
returns c = copy_waits_for_answers
