use Rattle.tg_law_claims.proofs.Causes.Reasons.{most_refusals_true}
use Rattle.tg_law_claims.proofs.refusals.most_refusals_true.Goals as goal

pub returns : goal.returns
returns g = most_refusals_true
