use Rattle.tg_law_cells.proofs.Tokens.Issues.{issued_once}
use Rattle.tg_law_cells.proofs.laws_of_tokens.issued_once.Goals as goal

pub returns : goal.returns
returns g c = issued_once _
