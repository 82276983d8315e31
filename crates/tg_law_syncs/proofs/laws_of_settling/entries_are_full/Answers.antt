use Rattle.tg_law_syncs.proofs.Settling.Full.{entries_are_full}
use Rattle.tg_law_syncs.proofs.laws_of_settling.entries_are_full.Goals as goal

pub returns : goal.returns
returns g c = entries_are_full _
