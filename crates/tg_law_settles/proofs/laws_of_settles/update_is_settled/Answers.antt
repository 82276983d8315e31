use Rattle.tg_law_settles.proofs.PastViews.{update_is_settled}
use Rattle.tg_law_settles.proofs.laws_of_settles.update_is_settled.Goals as goal

pub returns : goal.returns
returns g = update_is_settled
