use Rattle.tg_law_cells.proofs.Homes.Homes.{settled_is_below}
use Rattle.tg_law_cells.proofs.laws_of_homes.settled_is_below.Goals as goal

pub returns : goal.returns
returns g c = settled_is_below _
