use Rattle.tg_law_claims.proofs.Answers.Store.{aheads_there}
use Rattle.tg_law_claims.proofs.confirmed.aheads_there.Goals as goal

pub returns : goal.returns
returns g = aheads_there
