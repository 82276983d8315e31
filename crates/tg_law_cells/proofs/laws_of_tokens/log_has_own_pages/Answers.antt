use Rattle.tg_law_cells.proofs.Tokens.Archive.{log_has_own_pages}
use Rattle.tg_law_cells.proofs.laws_of_tokens.log_has_own_pages.Goals as goal

pub returns : goal.returns
returns g c = log_has_own_pages _
