use Rattle.tg_law_syncs.proofs.Exact.Awaiting.{worked_walk}
use Rattle.tg_law_syncs.proofs.laws_of_exact.worked.walk_is_in_hand.Goals as goal

pub returns : goal.returns
returns c = worked_walk
