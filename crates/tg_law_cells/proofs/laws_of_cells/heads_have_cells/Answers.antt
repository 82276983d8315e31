use Rattle.tg_law_cells.proofs.Cells.Heads.{heads_have_cells}
use Rattle.tg_law_cells.proofs.laws_of_cells.heads_have_cells.Goals as goal

pub returns : goal.returns
returns g c = heads_have_cells _
