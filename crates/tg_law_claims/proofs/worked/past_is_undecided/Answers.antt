use Rattle.tg_law_claims.proofs.Answers.Computed.{past_is_undecided}
use Rattle.tg_law_claims.proofs.worked.past_is_undecided.Goals as goal

pub returns : goal.returns
returns g = past_is_undecided
