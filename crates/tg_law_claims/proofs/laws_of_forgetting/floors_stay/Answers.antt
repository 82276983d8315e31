use Rattle.tg_law_claims.proofs.Forgetting.Floors.{floors_stay}
use Rattle.tg_law_claims.proofs.laws_of_forgetting.floors_stay.Goals as goal

pub returns : goal.returns
returns g = floors_stay
