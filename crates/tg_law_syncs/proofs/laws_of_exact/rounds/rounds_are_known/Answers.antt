use Rattle.tg_law_syncs.proofs.Exact.Finds.{rounds_known}
use Rattle.tg_law_syncs.proofs.laws_of_exact.rounds.rounds_are_known.Goals as goal

pub returns : goal.returns
returns g c = rounds_known _
