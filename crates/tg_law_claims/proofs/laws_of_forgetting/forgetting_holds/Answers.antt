use Rattle.tg_law_claims.proofs.Forgetting.Forgetting.{forgetting_holds}
use Rattle.tg_law_claims.proofs.laws_of_forgetting.forgetting_holds.Goals as goal

pub returns : goal.returns
returns g = forgetting_holds
