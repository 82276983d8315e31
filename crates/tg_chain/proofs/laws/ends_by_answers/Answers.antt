use Rattle.tg_chain.proofs.Steps.{ends_by_answers}
use Rattle.tg_chain.proofs.laws.ends_by_answers.Goals as goal

pub returns : goal.returns
returns c = ends_by_answers
