use Rattle.tg_law_headline.proofs.Trims.Runs.{trims_are_spare}
use Rattle.tg_law_headline.proofs.laws_of_trims.trims_are_spare.Goals as goal

pub returns : goal.returns
returns g c = trims_are_spare _
