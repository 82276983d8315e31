use Rattle.tg_law_claims.proofs.Answers.Store.{nones_there}
use Rattle.tg_law_claims.proofs.confirmed.nones_there.Goals as goal

pub returns : goal.returns
returns g = nones_there
