use Rattle.tg_law_headline.proofs.Alike.Recording.{commits_recorded}
use Rattle.tg_law_headline.proofs.laws_of_alike.commits_recorded.Goals as goal

pub returns : goal.returns
returns g c = commits_recorded _
