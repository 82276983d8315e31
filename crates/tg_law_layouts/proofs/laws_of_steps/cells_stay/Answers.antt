use Rattle.tg_law_layouts.proofs.Steps.Units.{cells_stay}
use Rattle.tg_law_layouts.proofs.laws_of_steps.cells_stay.Goals as goal

pub returns : goal.returns
returns c = cells_stay
