use Rattle.tg_law_reconfs.proofs.Changes.{changes_start}
use Rattle.tg_law_reconfs.proofs.laws_of_reconfs.changes_start.Goals as goal

pub returns : goal.returns
returns g = changes_start
