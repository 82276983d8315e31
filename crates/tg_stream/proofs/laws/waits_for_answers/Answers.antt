use Rattle.tg_stream.proofs.Ending.{waits_for_answers}
use Rattle.tg_stream.proofs.laws.waits_for_answers.Goals as goal

pub returns : goal.returns
returns c = waits_for_answers
