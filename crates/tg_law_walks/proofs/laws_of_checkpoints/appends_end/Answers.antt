use Rattle.tg_law_walks.proofs.Checkpoints.Checkpoints.{appends_end}
use Rattle.tg_law_walks.proofs.laws_of_checkpoints.appends_end.Goals as goal

pub returns : goal.returns
returns g c = appends_end _
