use Rattle.tg_law_cells.proofs.Places.Left.{left_refuse}
use Rattle.tg_law_cells.proofs.laws_of_places.left_refuse.Goals as goal

pub returns : goal.returns
returns g c = left_refuse _
