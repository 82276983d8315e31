use Rattle.tg_stream.proofs.Few.{steps_are_few}
use Rattle.tg_stream.proofs.laws.steps_are_few.Goals as goal

pub returns : goal.returns
returns c = steps_are_few
