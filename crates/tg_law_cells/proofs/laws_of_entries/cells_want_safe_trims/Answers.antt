use Rattle.tg_law_cells.proofs.Entries.Refuted.{cells_want_safe_trims}
use Rattle.tg_law_cells.proofs.laws_of_entries.cells_want_safe_trims.Goals as goal

pub returns : goal.returns
returns g = cells_want_safe_trims
