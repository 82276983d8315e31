use Rattle.tg_law_cells.proofs.Entries.Archive.{trimmed_is_in_log}
use Rattle.tg_law_cells.proofs.laws_of_entries.trimmed_is_in_log.Goals as goal

pub returns : goal.returns
returns g c = trimmed_is_in_log _
