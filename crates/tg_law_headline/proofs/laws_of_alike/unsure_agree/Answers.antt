use Rattle.tg_law_headline.proofs.Alike.Records.{unsure_agree}
use Rattle.tg_law_headline.proofs.laws_of_alike.unsure_agree.Goals as goal

pub returns : goal.returns
returns g c = unsure_agree _
