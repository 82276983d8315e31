use Rattle.tg_law_claims.proofs.Answers.Computed.{rescue_is_undecided}
use Rattle.tg_law_claims.proofs.worked.rescue_is_undecided.Goals as goal

pub returns : goal.returns
returns g = rescue_is_undecided
