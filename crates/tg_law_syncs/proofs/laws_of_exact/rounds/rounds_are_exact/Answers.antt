use Rattle.tg_law_syncs.proofs.Exact.Finds.{rounds_exact}
use Rattle.tg_law_syncs.proofs.laws_of_exact.rounds.rounds_are_exact.Goals as goal

pub returns : goal.returns
returns g c = rounds_exact _
