use Rattle.tg_append.proofs.AppendEnds.{append_pauses_by_answers}
use Rattle.tg_append.proofs.laws.append_pauses_by_answers.Goals as goal

pub returns : goal.returns
returns c = append_pauses_by_answers
