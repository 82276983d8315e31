use Rattle.tg_law_walks.proofs.Checkpoints.Checkpoints.{entries_own}
use Rattle.tg_law_walks.proofs.laws_of_checkpoints.entries_own.Goals as goal

pub returns : goal.returns
returns g c = entries_own _
