use Rattle.tg_law_reconfs.proofs.Settling.{votes_settle}
use Rattle.tg_law_reconfs.proofs.laws_of_reconfs.votes_are_answered.Goals as goal

pub returns : goal.returns
returns g = votes_settle
