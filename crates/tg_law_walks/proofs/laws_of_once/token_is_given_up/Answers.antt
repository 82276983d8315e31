use Rattle.tg_law_walks.proofs.Once.Worked.{worked_once}
use Rattle.tg_law_walks.proofs.laws_of_once.token_is_given_up.Goals as goal

pub returns : goal.returns
returns g = worked_once
