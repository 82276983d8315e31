use Rattle.tg_law_reconfs.proofs.Voted.{seals_finish}
use Rattle.tg_law_reconfs.proofs.laws_of_reconfs.seals_finish.Goals as goal

pub returns : goal.returns
returns g = seals_finish
