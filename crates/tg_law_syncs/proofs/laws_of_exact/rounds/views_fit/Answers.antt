use Rattle.tg_law_syncs.proofs.Exact.Fits.{views_fit}
use Rattle.tg_law_syncs.proofs.laws_of_exact.rounds.views_fit.Goals as goal

pub returns : goal.returns
returns g c = views_fit _
