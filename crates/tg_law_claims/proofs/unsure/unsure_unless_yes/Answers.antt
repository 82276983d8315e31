use Rattle.tg_law_claims.proofs.Answers.Store.{no_yes_there}
use Rattle.tg_law_claims.proofs.unsure.unsure_unless_yes.Goals as goal

pub returns : goal.returns
returns g = no_yes_there
