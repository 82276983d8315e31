use Rattle.tg_law_syncs.proofs.Exact.Fits.{views_below}
use Rattle.tg_law_syncs.proofs.laws_of_exact.rounds.views_are_below.Goals as goal

pub returns : goal.returns
returns g c = views_below _
