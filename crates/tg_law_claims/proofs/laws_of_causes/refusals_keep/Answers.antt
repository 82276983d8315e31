use Rattle.tg_law_claims.proofs.Causes.Keeping.{refusals_keep}
use Rattle.tg_law_claims.proofs.laws_of_causes.refusals_keep.Goals as goal

pub returns : goal.returns
returns g c = refusals_keep _
