use Rattle.tg_law_layouts.proofs.Steps.Worlds.{drains_end}
use Rattle.tg_law_layouts.proofs.laws_of_steps.drains_end.Goals as goal

pub returns : goal.returns
returns g c = drains_end _
