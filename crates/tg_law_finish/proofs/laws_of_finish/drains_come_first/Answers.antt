use Rattle.tg_law_finish.proofs.Finish.Drains.{drains_come_first}
use Rattle.tg_law_finish.proofs.laws_of_finish.drains_come_first.Goals as goal

pub returns : goal.returns
returns g c = drains_come_first _
