use Rattle.tg_law_headline.proofs.Trimming.Told.{trims_come_of_floors}
use Rattle.tg_law_headline.proofs.laws_of_trimming.trims_come_of_floors.Goals as goal

pub returns : goal.returns
returns g c = trims_come_of_floors _
