use Rattle.tg_law_walks.proofs.Once.Nowhere.{given_up_is_nowhere}
use Rattle.tg_law_walks.proofs.laws_of_once.given_up_is_nowhere.Goals as goal

pub returns : goal.returns
returns g c = given_up_is_nowhere _
