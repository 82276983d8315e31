use Rattle.tg_law_headline.proofs.Alike.Records.{commits_agree}
use Rattle.tg_law_headline.proofs.laws_of_alike.commits_agree.Goals as goal

pub returns : goal.returns
returns g c = commits_agree _
