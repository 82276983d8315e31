use Rattle.tg_law_layouts.proofs.Steps.Worlds.{settles_end}
use Rattle.tg_law_layouts.proofs.laws_of_steps.settles_end.Goals as goal

pub returns : goal.returns
returns g c = settles_end _
