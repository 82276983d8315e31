use Rattle.tg_law_cells.proofs.Cells.Settling.{last_unit_settles}
use Rattle.tg_law_cells.proofs.laws_of_cells.last_unit_settles.Goals as goal

pub returns : goal.returns
returns g c = last_unit_settles _
