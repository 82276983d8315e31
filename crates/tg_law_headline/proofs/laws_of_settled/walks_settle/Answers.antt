use Rattle.tg_law_headline.proofs.Settled.Settled.{walks_settle}
use Rattle.tg_law_headline.proofs.laws_of_settled.walks_settle.Goals as goal

pub returns : goal.returns
returns g c = walks_settle _
