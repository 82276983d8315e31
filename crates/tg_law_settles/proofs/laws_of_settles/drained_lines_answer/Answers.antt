use Rattle.tg_law_settles.proofs.Settles.{drained_lines_answer}
use Rattle.tg_law_settles.proofs.laws_of_settles.drained_lines_answer.Goals as goal

pub returns : goal.returns
returns g = drained_lines_answer
