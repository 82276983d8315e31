use Rattle.tg_law_syncs.proofs.Settling.Visiting.{walks_visit}
use Rattle.tg_law_syncs.proofs.laws_of_settling.visits.walks_visit.Goals as goal

pub returns : goal.returns
returns g c = walks_visit _
