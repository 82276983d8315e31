use Rattle.tg_law_cells.proofs.Places.Left.{chains_stand}
use Rattle.tg_law_cells.proofs.laws_of_places.chains_stand.Goals as goal

pub returns : goal.returns
returns g c = chains_stand _
