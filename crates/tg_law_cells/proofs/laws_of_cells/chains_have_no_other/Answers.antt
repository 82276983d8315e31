use Rattle.tg_law_cells.proofs.Cells.Settling.{chains_have_no_other}
use Rattle.tg_law_cells.proofs.laws_of_cells.chains_have_no_other.Goals as goal

pub returns : goal.returns
returns g c = chains_have_no_other _
