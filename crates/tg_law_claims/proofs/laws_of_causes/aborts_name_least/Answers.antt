use Rattle.tg_law_claims.proofs.Causes.Store.{aborts_name_least}
use Rattle.tg_law_claims.proofs.laws_of_causes.aborts_name_least.Goals as goal

pub returns : goal.returns
returns g = aborts_name_least
