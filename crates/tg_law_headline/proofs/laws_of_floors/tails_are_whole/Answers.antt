use Rattle.tg_law_headline.proofs.Floors.Swept.{tails_are_whole}
use Rattle.tg_law_headline.proofs.laws_of_floors.tails_are_whole.Goals as goal

pub returns : goal.returns
returns g c = tails_are_whole _
