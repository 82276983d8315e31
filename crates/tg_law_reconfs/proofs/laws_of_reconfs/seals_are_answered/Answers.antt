use Rattle.tg_law_reconfs.proofs.Settling.{seals_settle}
use Rattle.tg_law_reconfs.proofs.laws_of_reconfs.seals_are_answered.Goals as goal

pub returns : goal.returns
returns g = seals_settle
