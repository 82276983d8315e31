use Rattle.tg_stream.proofs.Ending.{ends_by_answers}
use Rattle.tg_stream.proofs.laws.ends_by_answers.Goals as goal

pub returns : goal.returns
returns c = ends_by_answers
