use Rattle.tg_law_headline.proofs.Origins.Origins.{checkpoints_follow_walks}
use Rattle.tg_law_headline.proofs.laws_of_origins.checkpoints_follow_walks.Goals as goal

pub returns : goal.returns
returns g c = checkpoints_follow_walks _
