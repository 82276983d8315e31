use Rattle.tg_law_headline.proofs.Alike.Recording.{decisions_recorded}
use Rattle.tg_law_headline.proofs.laws_of_alike.decisions_recorded.Goals as goal

pub returns : goal.returns
returns g c = decisions_recorded _
