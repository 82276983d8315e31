use Rattle.tg_law_headline.proofs.Joint.Holding.{steps_hold}
use Rattle.tg_law_headline.proofs.laws_of_joint.steps_hold.Goals as goal

pub returns : goal.returns
returns g = steps_hold
