use Rattle.tg_law_claims.proofs.Causes.StoreStalled.{stuck_true}
use Rattle.tg_law_claims.proofs.undecided.stuck_true.Goals as goal

pub returns : goal.returns
returns g = stuck_true
