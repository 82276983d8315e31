use Rattle.tg_law_headline.proofs.Origins.Origins.{decisions_follow_walks}
use Rattle.tg_law_headline.proofs.laws_of_origins.decisions_follow_walks.Goals as goal

pub returns : goal.returns
returns g c = decisions_follow_walks _
