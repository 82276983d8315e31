use Rattle.tg_law_headline.proofs.Alike.Records.{aborts_agree}
use Rattle.tg_law_headline.proofs.laws_of_alike.aborts_agree.Goals as goal

pub returns : goal.returns
returns g c = aborts_agree _
