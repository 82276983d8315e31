use Rattle.tg_law_syncs.proofs.Exact.Own.{passes_own}
use Rattle.tg_law_syncs.proofs.laws_of_exact.rounds.passes_own.Goals as goal

pub returns : goal.returns
returns g c = passes_own _
