use Rattle.tg_law_claims.proofs.Answers.Store.{pasts_undecided}
use Rattle.tg_law_claims.proofs.undecided_of_answers.pasts_undecided.Goals as goal

pub returns : goal.returns
returns g = pasts_undecided
