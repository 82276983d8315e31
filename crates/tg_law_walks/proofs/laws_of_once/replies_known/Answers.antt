use Rattle.tg_law_walks.proofs.Once.Known.{replies_known}
use Rattle.tg_law_walks.proofs.laws_of_once.replies_known.Goals as goal

pub returns : goal.returns
returns g c = replies_known _
