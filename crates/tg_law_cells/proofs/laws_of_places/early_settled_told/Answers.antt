use Rattle.tg_law_cells.proofs.Places.Left.{early_settled_told}
use Rattle.tg_law_cells.proofs.laws_of_places.early_settled_told.Goals as goal

pub returns : goal.returns
returns g c = early_settled_told _
