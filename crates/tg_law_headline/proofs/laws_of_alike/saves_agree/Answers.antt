use Rattle.tg_law_headline.proofs.Alike.Told.{saves_agree}
use Rattle.tg_law_headline.proofs.laws_of_alike.saves_agree.Goals as goal

pub returns : goal.returns
returns g c = saves_agree _
