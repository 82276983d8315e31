use Rattle.tg_law_cells.proofs.Entries.Archive.{cells_stay}
use Rattle.tg_law_cells.proofs.laws_of_entries.cells_stay.Goals as goal

pub returns : goal.returns
returns g c = cells_stay _
