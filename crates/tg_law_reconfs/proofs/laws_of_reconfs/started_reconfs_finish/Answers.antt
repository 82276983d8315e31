use Rattle.tg_law_reconfs.proofs.Starts.{started_reconfs_finish}
use Rattle.tg_law_reconfs.proofs.laws_of_reconfs.started_reconfs_finish.Goals as goal

pub returns : goal.returns
returns g = started_reconfs_finish
