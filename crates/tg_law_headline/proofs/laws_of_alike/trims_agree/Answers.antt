use Rattle.tg_law_headline.proofs.Alike.Trimmed.{trims_agree}
use Rattle.tg_law_headline.proofs.laws_of_alike.trims_agree.Goals as goal

pub returns : goal.returns
returns g c = trims_agree _
