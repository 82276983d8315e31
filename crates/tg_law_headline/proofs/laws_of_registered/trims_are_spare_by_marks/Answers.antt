use Rattle.tg_law_headline.proofs.Registered.Resting.{trims_are_spare_by_marks}
use Rattle.tg_law_headline.proofs.laws_of_registered.trims_are_spare_by_marks.Goals as goal

pub returns : goal.returns
returns g c = trims_are_spare_by_marks _
