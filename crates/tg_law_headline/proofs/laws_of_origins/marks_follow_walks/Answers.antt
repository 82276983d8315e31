use Rattle.tg_law_headline.proofs.Origins.Origins.{marks_follow_walks}
use Rattle.tg_law_headline.proofs.laws_of_origins.marks_follow_walks.Goals as goal

pub returns : goal.returns
returns g c = marks_follow_walks _
