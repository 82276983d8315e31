use Rattle.tg_reconf.proofs.Counting.{steps_are_few}
use Rattle.tg_reconf.proofs.laws.steps_are_few.Goals as goal

pub returns : goal.returns
returns c = steps_are_few
