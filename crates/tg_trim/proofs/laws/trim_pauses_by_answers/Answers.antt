use Rattle.tg_trim.proofs.Answers.{trim_pauses_by_answers}
use Rattle.tg_trim.proofs.laws.trim_pauses_by_answers.Goals as goal

pub returns : goal.returns
returns c = trim_pauses_by_answers
