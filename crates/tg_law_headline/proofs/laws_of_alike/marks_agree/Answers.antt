use Rattle.tg_law_headline.proofs.Alike.Told.{marks_agree}
use Rattle.tg_law_headline.proofs.laws_of_alike.marks_agree.Goals as goal

pub returns : goal.returns
returns g c = marks_agree _
