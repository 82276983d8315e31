use Rattle.tg_law_cells.proofs.Homes.Gones.{gone_is_asked}
use Rattle.tg_law_cells.proofs.laws_of_homes.gone_is_asked.Goals as goal

pub returns : goal.returns
returns g c = gone_is_asked _
