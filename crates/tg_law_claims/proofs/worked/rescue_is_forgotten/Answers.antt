use Rattle.tg_law_claims.proofs.Answers.Computed.{rescue_is_forgotten}
use Rattle.tg_law_claims.proofs.worked.rescue_is_forgotten.Goals as goal

pub returns : goal.returns
returns g = rescue_is_forgotten
