use Rattle.tg_law_headline.proofs.Trims.Floors.{floors_are_spare}
use Rattle.tg_law_headline.proofs.laws_of_trims.floors_are_spare.Goals as goal

pub returns : goal.returns
returns g c = floors_are_spare _
