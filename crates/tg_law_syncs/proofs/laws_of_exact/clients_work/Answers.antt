use Rattle.tg_law_syncs.proofs.Exact.Held.{clients_work}
use Rattle.tg_law_syncs.proofs.laws_of_exact.clients_work.Goals as goal

pub returns : goal.returns
returns g c = clients_work _
