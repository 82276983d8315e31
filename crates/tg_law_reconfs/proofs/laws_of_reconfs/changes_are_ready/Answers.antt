use Rattle.tg_law_reconfs.proofs.Ready.{changes_are_ready}
use Rattle.tg_law_reconfs.proofs.laws_of_reconfs.changes_are_ready.Goals as goal

pub returns : goal.returns
returns g = changes_are_ready
