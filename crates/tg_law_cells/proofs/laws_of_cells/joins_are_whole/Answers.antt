use Rattle.tg_law_cells.proofs.Cells.Settling.{joins_are_whole}
use Rattle.tg_law_cells.proofs.laws_of_cells.joins_are_whole.Goals as goal

pub returns : goal.returns
returns g c = joins_are_whole _
