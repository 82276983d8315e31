use Rattle.tg_law_headline.proofs.Alike.Told.{copies_agree}
use Rattle.tg_law_headline.proofs.laws_of_alike.copies_agree.Goals as goal

pub returns : goal.returns
returns g c = copies_agree _
