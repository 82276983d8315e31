use Rattle.tg_law_claims.proofs.Answers.Store.{fates_forgotten}
use Rattle.tg_law_claims.proofs.confirmed.fates_forgotten.Goals as goal

pub returns : goal.returns
returns g = fates_forgotten
