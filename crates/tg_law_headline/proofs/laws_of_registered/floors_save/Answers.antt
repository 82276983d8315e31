use Rattle.tg_law_headline.proofs.Registered.Marks.{floors_save}
use Rattle.tg_law_headline.proofs.laws_of_registered.floors_save.Goals as goal

pub returns : goal.returns
returns g c = floors_save _
