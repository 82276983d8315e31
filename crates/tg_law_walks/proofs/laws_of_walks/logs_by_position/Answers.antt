use Rattle.tg_law_walks.proofs.Walks.Syncs.{logs_by_position}
use Rattle.tg_law_walks.proofs.laws_of_walks.logs_by_position.Goals as goal

pub returns : goal.returns
returns g c = logs_by_position _
