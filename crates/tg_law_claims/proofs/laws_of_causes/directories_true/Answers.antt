use Rattle.tg_law_claims.proofs.Causes.Store.{directories_true}
use Rattle.tg_law_claims.proofs.laws_of_causes.directories_true.Goals as goal

pub returns : goal.returns
returns g = directories_true
