use Rattle.tg_law_cells.proofs.Places.Left.{served_chains_are_late}
use Rattle.tg_law_cells.proofs.laws_of_places.served_chains_are_late.Goals as goal

pub returns : goal.returns
returns g c = served_chains_are_late _
