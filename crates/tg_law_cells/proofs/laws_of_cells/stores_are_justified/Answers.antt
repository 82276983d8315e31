use Rattle.tg_law_cells.proofs.Cells.Stores.{stores_are_justified}
use Rattle.tg_law_cells.proofs.laws_of_cells.stores_are_justified.Goals as goal

pub returns : goal.returns
returns g c = stores_are_justified _
