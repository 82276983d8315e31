use Rattle.tg_law_cells.proofs.Places.Left.{left_told}
use Rattle.tg_law_cells.proofs.laws_of_places.left_told.Goals as goal

pub returns : goal.returns
returns g c = left_told _
