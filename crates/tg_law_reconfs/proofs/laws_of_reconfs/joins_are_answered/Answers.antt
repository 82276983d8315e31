use Rattle.tg_law_reconfs.proofs.Settling.{joins_settle}
use Rattle.tg_law_reconfs.proofs.laws_of_reconfs.joins_are_answered.Goals as goal

pub returns : goal.returns
returns g = joins_settle
