use Rattle.tg_law_claims.proofs.Whole.Log.{one_log}
use Rattle.tg_law_claims.proofs.laws_of_whole.one_log.Goals as goal

pub returns : goal.returns
returns g = one_log
