use Rattle.tg_law_syncs.proofs.Follow.Saves.{saves_precede}
use Rattle.tg_law_syncs.proofs.laws_of_follow.saves_stay_below.Goals as goal

pub returns : goal.returns
returns g c = saves_precede _
