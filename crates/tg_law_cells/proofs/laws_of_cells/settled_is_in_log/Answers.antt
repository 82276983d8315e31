use Rattle.tg_law_cells.proofs.Cells.Settling.{settled_is_in_log}
use Rattle.tg_law_cells.proofs.laws_of_cells.settled_is_in_log.Goals as goal

pub returns : goal.returns
returns g c = settled_is_in_log _
