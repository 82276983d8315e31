use Rattle.tg_law_cells.proofs.Homes.Homes.{epochs_are_decided}
use Rattle.tg_law_cells.proofs.laws_of_homes.epochs_are_decided.Goals as goal

pub returns : goal.returns
returns g c = epochs_are_decided _
