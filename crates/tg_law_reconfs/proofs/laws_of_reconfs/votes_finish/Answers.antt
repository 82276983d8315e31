use Rattle.tg_law_reconfs.proofs.Voted.{votes_finish}
use Rattle.tg_law_reconfs.proofs.laws_of_reconfs.votes_finish.Goals as goal

pub returns : goal.returns
returns g = votes_finish
