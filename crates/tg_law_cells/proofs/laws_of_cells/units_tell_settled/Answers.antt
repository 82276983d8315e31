use Rattle.tg_law_cells.proofs.Cells.Settling.{units_tell_settled}
use Rattle.tg_law_cells.proofs.laws_of_cells.units_tell_settled.Goals as goal

pub returns : goal.returns
returns g c = units_tell_settled _
