use Rattle.tg_reconf.proofs.Waiting.{waits_for_answers}
use Rattle.tg_reconf.proofs.laws.waits_for_answers.Goals as goal

pub returns : goal.returns
returns c = waits_for_answers
