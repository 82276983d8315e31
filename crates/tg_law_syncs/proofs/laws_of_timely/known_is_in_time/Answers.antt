use Rattle.tg_law_syncs.proofs.Timely.Timely.{known_is_in_time}
use Rattle.tg_law_syncs.proofs.laws_of_timely.known_is_in_time.Goals as goal

pub returns : goal.returns
returns g c = known_is_in_time _
