use Rattle.tg_law_cells.proofs.Entries.Archive.{log_is_settled}
use Rattle.tg_law_cells.proofs.laws_of_entries.log_is_settled.Goals as goal

pub returns : goal.returns
returns g c = log_is_settled _
