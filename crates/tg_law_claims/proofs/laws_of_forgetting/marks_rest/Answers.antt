use Rattle.tg_law_claims.proofs.Forgetting.Marks.{marks_rest}
use Rattle.tg_law_claims.proofs.laws_of_forgetting.marks_rest.Goals as goal

pub returns : goal.returns
returns g = marks_rest
