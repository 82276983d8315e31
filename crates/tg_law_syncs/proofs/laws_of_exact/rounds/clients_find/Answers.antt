use Rattle.tg_law_syncs.proofs.Exact.Fits.{finds}
use Rattle.tg_law_syncs.proofs.laws_of_exact.rounds.clients_find.Goals as goal

pub returns : goal.returns
returns g c = finds _
