use Rattle.tg_law_layouts.proofs.Steps.Units.{seals_fence}
use Rattle.tg_law_layouts.proofs.laws_of_steps.seals_fence.Goals as goal

pub returns : goal.returns
returns c = seals_fence
