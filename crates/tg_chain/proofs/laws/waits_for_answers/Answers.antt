use Rattle.tg_chain.proofs.Passing.{waits_for_answers}
use Rattle.tg_chain.proofs.laws.waits_for_answers.Goals as goal

pub returns : goal.returns
returns c = waits_for_answers
