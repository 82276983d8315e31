use Rattle.tg_law_syncs.proofs.Timely.Timely.{stands_rise}
use Rattle.tg_law_syncs.proofs.laws_of_timely.stands_rise.Goals as goal

pub returns : goal.returns
returns g c = stands_rise _
