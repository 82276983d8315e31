use Rattle.tg_law_claims.proofs.Answers.Store.{pasts_forgotten}
use Rattle.tg_law_claims.proofs.confirmed.pasts_forgotten.Goals as goal

pub returns : goal.returns
returns g = pasts_forgotten
