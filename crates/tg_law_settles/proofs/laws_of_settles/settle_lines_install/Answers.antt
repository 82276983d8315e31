use Rattle.tg_law_settles.proofs.Changes.{settle_lines_install}
use Rattle.tg_law_settles.proofs.laws_of_settles.settle_lines_install.Goals as goal

pub returns : goal.returns
returns g = settle_lines_install
