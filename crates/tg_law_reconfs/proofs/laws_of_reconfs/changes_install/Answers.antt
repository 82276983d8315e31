use Rattle.tg_law_reconfs.proofs.Installing.{changes_install}
use Rattle.tg_law_reconfs.proofs.laws_of_reconfs.changes_install.Goals as goal

pub returns : goal.returns
returns g = changes_install
