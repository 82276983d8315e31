use Rattle.tg_law_cells.proofs.Places.Order.{points_precede_places}
use Rattle.tg_law_cells.proofs.laws_of_places.points_precede_places.Goals as goal

pub returns : goal.returns
returns g c = points_precede_places _
