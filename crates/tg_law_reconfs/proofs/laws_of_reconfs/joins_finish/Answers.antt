use Rattle.tg_law_reconfs.proofs.Phased.{joins_finish}
use Rattle.tg_law_reconfs.proofs.laws_of_reconfs.joins_finish.Goals as goal

pub returns : goal.returns
returns g = joins_finish
