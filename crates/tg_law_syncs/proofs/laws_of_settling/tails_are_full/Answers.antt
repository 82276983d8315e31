use Rattle.tg_law_syncs.proofs.Settling.Full.{tails_are_full}
use Rattle.tg_law_syncs.proofs.laws_of_settling.tails_are_full.Goals as goal

pub returns : goal.returns
returns g c = tails_are_full _
