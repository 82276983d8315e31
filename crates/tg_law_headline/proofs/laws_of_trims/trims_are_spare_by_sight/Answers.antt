use Rattle.tg_law_headline.proofs.Trims.Floors.{trims_are_spare_by_sight}
use Rattle.tg_law_headline.proofs.laws_of_trims.trims_are_spare_by_sight.Goals as goal

pub returns : goal.returns
returns g c = trims_are_spare_by_sight _
