use Rattle.tg_law_cells.proofs.Tokens.Held.{units_hold_own_pages}
use Rattle.tg_law_cells.proofs.laws_of_tokens.units_hold_own_pages.Goals as goal

pub returns : goal.returns
returns g c = units_hold_own_pages _
