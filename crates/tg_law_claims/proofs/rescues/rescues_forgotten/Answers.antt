use Rattle.tg_law_claims.proofs.Answers.Store.{rescues_forgotten}
use Rattle.tg_law_claims.proofs.rescues.rescues_forgotten.Goals as goal

pub returns : goal.returns
returns g = rescues_forgotten
