use Rattle.tg_law_settles.proofs.Changes.{settle_lines_end}
use Rattle.tg_law_settles.proofs.laws_of_settles.settle_lines_end.Goals as goal

pub returns : goal.returns
returns g = settle_lines_end
