use Rattle.tg_chain.proofs.Steps.{steps_are_few}
use Rattle.tg_chain.proofs.laws.steps_are_few.Goals as goal

pub returns : goal.returns
returns c = steps_are_few
