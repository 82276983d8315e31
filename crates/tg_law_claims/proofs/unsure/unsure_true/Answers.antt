use Rattle.tg_law_claims.proofs.Answers.Store.{unsure_true}
use Rattle.tg_law_claims.proofs.unsure.unsure_true.Goals as goal

pub returns : goal.returns
returns g = unsure_true
