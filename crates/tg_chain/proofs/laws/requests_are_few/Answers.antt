use Rattle.tg_chain.proofs.Steps.{requests_are_few}
use Rattle.tg_chain.proofs.laws.requests_are_few.Goals as goal

pub returns : goal.returns
returns c = requests_are_few
