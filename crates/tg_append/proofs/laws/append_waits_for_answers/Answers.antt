use Rattle.tg_append.proofs.AppendWaits.{append_waits_for_answers}
use Rattle.tg_append.proofs.laws.append_waits_for_answers.Goals as goal

pub returns : goal.returns
returns c = append_waits_for_answers
