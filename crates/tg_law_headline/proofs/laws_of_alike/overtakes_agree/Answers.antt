use Rattle.tg_law_headline.proofs.Alike.Told.{overtakes_agree}
use Rattle.tg_law_headline.proofs.laws_of_alike.overtakes_agree.Goals as goal

pub returns : goal.returns
returns g c = overtakes_agree _
