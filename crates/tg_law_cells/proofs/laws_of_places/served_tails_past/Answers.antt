use Rattle.tg_law_cells.proofs.Places.Past.{served_tails_past}
use Rattle.tg_law_cells.proofs.laws_of_places.served_tails_past.Goals as goal

pub returns : goal.returns
returns g c = served_tails_past _
