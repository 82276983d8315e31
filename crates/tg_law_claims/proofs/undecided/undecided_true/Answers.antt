use Rattle.tg_law_claims.proofs.Causes.StoreStalled.{undecided_true}
use Rattle.tg_law_claims.proofs.undecided.undecided_true.Goals as goal

pub returns : goal.returns
returns g = undecided_true
