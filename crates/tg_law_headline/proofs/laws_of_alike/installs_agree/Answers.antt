use Rattle.tg_law_headline.proofs.Alike.Told.{installs_agree}
use Rattle.tg_law_headline.proofs.laws_of_alike.installs_agree.Goals as goal

pub returns : goal.returns
returns g c = installs_agree _
