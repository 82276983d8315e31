use Rattle.tg_law_cells.proofs.Entries.Worked.{worked_trim}
use Rattle.tg_law_cells.proofs.laws_of_entries.trim_is_safe.Goals as goal

pub returns : goal.returns
returns g = worked_trim
