use Rattle.tg_law_syncs.proofs.Finds.Rounds.{rounds_find}
use Rattle.tg_law_syncs.proofs.laws_of_finds.rounds_find.Goals as goal

pub returns : goal.returns
returns g c = rounds_find _
