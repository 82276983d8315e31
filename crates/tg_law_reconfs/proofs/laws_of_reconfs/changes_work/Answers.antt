use Rattle.tg_law_reconfs.proofs.Changes.{changes_work}
use Rattle.tg_law_reconfs.proofs.laws_of_reconfs.changes_work.Goals as goal

pub returns : goal.returns
returns g = changes_work
