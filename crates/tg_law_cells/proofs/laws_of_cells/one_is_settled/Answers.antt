use Rattle.tg_law_cells.proofs.Cells.Settling.{one_is_settled}
use Rattle.tg_law_cells.proofs.laws_of_cells.one_is_settled.Goals as goal

pub returns : goal.returns
returns g c = one_is_settled _
