use Rattle.tg_law_claims.proofs.Answers.Store.{nones_true}
use Rattle.tg_law_claims.proofs.laws_of_answers.nones_true.Goals as goal

pub returns : goal.returns
returns g = nones_true
