use Rattle.tg_law_headline.proofs.Trims.Sights.{sights_by_finds}
use Rattle.tg_law_headline.proofs.laws_of_trims.sights_by_finds.Goals as goal

pub returns : goal.returns
returns g c = sights_by_finds _
