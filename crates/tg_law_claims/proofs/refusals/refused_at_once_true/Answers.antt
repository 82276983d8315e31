use Rattle.tg_law_claims.proofs.Causes.Reasons.{refused_at_once_true}
use Rattle.tg_law_claims.proofs.refusals.refused_at_once_true.Goals as goal

pub returns : goal.returns
returns g = refused_at_once_true
