use Rattle.tg_law_cells.proofs.Places.Left.{chains_are_left}
use Rattle.tg_law_cells.proofs.laws_of_places.chains_are_left.Goals as goal

pub returns : goal.returns
returns g c = chains_are_left _
