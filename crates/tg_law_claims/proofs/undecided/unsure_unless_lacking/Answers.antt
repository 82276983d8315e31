use Rattle.tg_law_claims.proofs.Causes.StoreStalled.{unsure_unless_lacking}
use Rattle.tg_law_claims.proofs.undecided.unsure_unless_lacking.Goals as goal

pub returns : goal.returns
returns g = unsure_unless_lacking
