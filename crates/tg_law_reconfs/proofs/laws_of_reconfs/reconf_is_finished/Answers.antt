use Rattle.tg_law_reconfs.proofs.Ready.{reconf_settles}
use Rattle.tg_law_reconfs.proofs.laws_of_reconfs.reconf_is_finished.Goals as goal

pub returns : goal.returns
returns g = reconf_settles
