use Rattle.tg_law_syncs.proofs.Known.Held.{known_is_the_logs}
use Rattle.tg_law_syncs.proofs.laws_of_known.known_is_the_logs.Goals as goal

pub returns : goal.returns
returns g c = known_is_the_logs _
