use Rattle.tg_law_claims.proofs.Whole.Answered.{causes_hold}
use Rattle.tg_law_claims.proofs.laws_of_whole.causes_hold.Goals as goal

pub returns : goal.returns
returns g = causes_hold
