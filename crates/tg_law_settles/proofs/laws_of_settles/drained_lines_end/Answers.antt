use Rattle.tg_law_settles.proofs.Changes.{drained_lines_end}
use Rattle.tg_law_settles.proofs.laws_of_settles.drained_lines_end.Goals as goal

pub returns : goal.returns
returns g = drained_lines_end
