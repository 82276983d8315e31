use Rattle.tg_law_claims.proofs.Causes.Heard.{refused_later_true}
use Rattle.tg_law_claims.proofs.refusals.refused_later_true.Goals as goal

pub returns : goal.returns
returns g c = refused_later_true _
