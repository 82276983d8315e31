use Rattle.tg_law_walks.proofs.Once.Nowhere.{log_has_no_given_up}
use Rattle.tg_law_walks.proofs.laws_of_once.log_has_no_given_up.Goals as goal

pub returns : goal.returns
returns g c = log_has_no_given_up _
