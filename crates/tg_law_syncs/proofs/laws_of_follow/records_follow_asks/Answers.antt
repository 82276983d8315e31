use Rattle.tg_law_syncs.proofs.Follow.Asks.{records_follow_asks}
use Rattle.tg_law_syncs.proofs.laws_of_follow.records_follow_asks.Goals as goal

pub returns : goal.returns
returns g c = records_follow_asks _
