use Rattle.tg_append.proofs.AppendEnds.{append_ends_by_answers}
use Rattle.tg_append.proofs.laws.append_ends_by_answers.Goals as goal

pub returns : goal.returns
returns c = append_ends_by_answers
