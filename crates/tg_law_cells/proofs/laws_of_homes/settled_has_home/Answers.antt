use Rattle.tg_law_cells.proofs.Homes.Homes.{settled_has_home}
use Rattle.tg_law_cells.proofs.laws_of_homes.settled_has_home.Goals as goal

pub returns : goal.returns
returns g c = settled_has_home _
