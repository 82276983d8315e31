use Rattle.tg_law_cells.proofs.Places.Tails.{served_tails_rise}
use Rattle.tg_law_cells.proofs.laws_of_places.served_tails_rise.Goals as goal

pub returns : goal.returns
returns g c = served_tails_rise _
