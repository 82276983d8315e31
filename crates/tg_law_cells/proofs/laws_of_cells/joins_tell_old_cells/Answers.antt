use Rattle.tg_law_cells.proofs.Cells.Settling.{joins_tell_old_cells}
use Rattle.tg_law_cells.proofs.laws_of_cells.joins_tell_old_cells.Goals as goal

pub returns : goal.returns
returns g c = joins_tell_old_cells _
