use Rattle.tg_law_reconfs.proofs.Whole.{reconfs_end}
use Rattle.tg_law_reconfs.proofs.laws_of_reconfs.reconfs_end.Goals as goal

pub returns : goal.returns
returns g = reconfs_end
