use Rattle.tg_law_syncs.proofs.Settling.Told.{told_lists_are_full}
use Rattle.tg_law_syncs.proofs.laws_of_settling.told_lists_are_full.Goals as goal

pub returns : goal.returns
returns g c = told_lists_are_full _
