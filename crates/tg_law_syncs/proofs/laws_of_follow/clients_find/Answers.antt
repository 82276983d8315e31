use Rattle.tg_law_syncs.proofs.Follow.Legal.{clients_find}
use Rattle.tg_law_syncs.proofs.laws_of_follow.clients_find.Goals as goal

pub returns : goal.returns
returns g c = clients_find _
