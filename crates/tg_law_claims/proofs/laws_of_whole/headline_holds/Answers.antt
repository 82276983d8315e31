use Rattle.tg_law_claims.proofs.Whole.Runs.{headline_holds}
use Rattle.tg_law_claims.proofs.laws_of_whole.headline_holds.Goals as goal

pub returns : goal.returns
returns g = headline_holds
