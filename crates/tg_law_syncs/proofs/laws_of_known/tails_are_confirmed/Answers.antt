use Rattle.tg_law_syncs.proofs.Known.Tails.{tails_are_confirmed}
use Rattle.tg_law_syncs.proofs.laws_of_known.tails_are_confirmed.Goals as goal

pub returns : goal.returns
returns g c = tails_are_confirmed _
