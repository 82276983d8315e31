use Rattle.tg_law_claims.proofs.Answers.Store.{causes_refuse}
use Rattle.tg_law_claims.proofs.laws_of_answers.causes_refuse.Goals as goal

pub returns : goal.returns
returns g = causes_refuse
