use Rattle.tg_trim.proofs.Answers.{trim_ends_by_answers}
use Rattle.tg_trim.proofs.laws.trim_ends_by_answers.Goals as goal

pub returns : goal.returns
returns c = trim_ends_by_answers
