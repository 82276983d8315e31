use Rattle.tg_law_reconfs.proofs.Ends.{reconf_ends_are_told}
use Rattle.tg_law_reconfs.proofs.laws_of_reconfs.reconf_ends_are_told.Goals as goal

pub returns : goal.returns
returns g c = reconf_ends_are_told _
