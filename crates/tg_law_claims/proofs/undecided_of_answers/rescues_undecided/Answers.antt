use Rattle.tg_law_claims.proofs.Answers.Store.{rescues_undecided}
use Rattle.tg_law_claims.proofs.undecided_of_answers.rescues_undecided.Goals as goal

pub returns : goal.returns
returns g = rescues_undecided
