use Rattle.tg_law_headline.proofs.Joint.Steps.{steps_hold_where}
use Rattle.tg_law_headline.proofs.laws_of_joint.steps_hold_where.Goals as goal

pub returns : goal.returns
returns g = steps_hold_where
