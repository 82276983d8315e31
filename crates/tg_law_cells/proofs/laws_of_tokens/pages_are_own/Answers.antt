use Rattle.tg_law_cells.proofs.Tokens.Own.{pages_are_own}
use Rattle.tg_law_cells.proofs.laws_of_tokens.pages_are_own.Goals as goal

pub returns : goal.returns
returns g c = pages_are_own _
