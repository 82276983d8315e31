use Rattle.tg_law_cells.proofs.Tokens.Linked.{log_entries_are_linked}
use Rattle.tg_law_cells.proofs.laws_of_tokens.log_entries_are_linked.Goals as goal

pub returns : goal.returns
returns g c = log_entries_are_linked _
