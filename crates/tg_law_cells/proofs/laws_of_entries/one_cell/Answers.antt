use Rattle.tg_law_cells.proofs.Entries.Archive.{one_cell}
use Rattle.tg_law_cells.proofs.laws_of_entries.one_cell.Goals as goal

pub returns : goal.returns
returns g c = one_cell _
