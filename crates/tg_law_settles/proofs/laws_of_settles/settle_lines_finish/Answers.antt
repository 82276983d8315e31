use Rattle.tg_law_settles.proofs.Settles.{settle_lines_finish}
use Rattle.tg_law_settles.proofs.laws_of_settles.settle_lines_finish.Goals as goal

pub returns : goal.returns
returns g = settle_lines_finish
