use Rattle.tg_law_syncs.proofs.Follow.Legal.{replies_recorded}
use Rattle.tg_law_syncs.proofs.laws_of_follow.replies_recorded.Goals as goal

pub returns : goal.returns
returns g c = replies_recorded _
