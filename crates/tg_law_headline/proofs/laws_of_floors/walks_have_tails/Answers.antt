use Rattle.tg_law_headline.proofs.Floors.Tails.{walks_have_tails}
use Rattle.tg_law_headline.proofs.laws_of_floors.walks_have_tails.Goals as goal

pub returns : goal.returns
returns g c = walks_have_tails _
