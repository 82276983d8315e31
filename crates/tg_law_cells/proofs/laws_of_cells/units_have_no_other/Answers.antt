use Rattle.tg_law_cells.proofs.Cells.Settling.{units_have_no_other}
use Rattle.tg_law_cells.proofs.laws_of_cells.units_have_no_other.Goals as goal

pub returns : goal.returns
returns g c = units_have_no_other _
