use Rattle.tg_law_cells.proofs.Homes.Homes.{starts_rise}
use Rattle.tg_law_cells.proofs.laws_of_homes.starts_rise.Goals as goal

pub returns : goal.returns
returns g c = starts_rise _
