use Rattle.tg_trim.proofs.Answers.{trim_waits_for_answers}
use Rattle.tg_trim.proofs.laws.trim_waits_for_answers.Goals as goal

pub returns : goal.returns
returns c = trim_waits_for_answers
