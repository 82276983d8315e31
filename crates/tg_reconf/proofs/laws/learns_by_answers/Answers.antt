use Rattle.tg_reconf.proofs.Ending.{learns_by_answers}
use Rattle.tg_reconf.proofs.laws.learns_by_answers.Goals as goal

pub returns : goal.returns
returns c = learns_by_answers
