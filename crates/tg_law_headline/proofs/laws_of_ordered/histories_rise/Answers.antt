use Rattle.tg_law_headline.proofs.Ordered.Histories.{histories_rise}
use Rattle.tg_law_headline.proofs.laws_of_ordered.histories_rise.Goals as goal

pub returns : goal.returns
returns g c = histories_rise _
