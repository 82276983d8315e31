use Rattle.tg_law_claims.proofs.Forgetting.Trimmed.{trims_spare}
use Rattle.tg_law_claims.proofs.laws_of_forgetting.trims_spare.Goals as goal

pub returns : goal.returns
returns g = trims_spare
