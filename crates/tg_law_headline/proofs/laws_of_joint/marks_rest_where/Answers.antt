use Rattle.tg_law_headline.proofs.Joint.Resting.{marks_rest_where}
use Rattle.tg_law_headline.proofs.laws_of_joint.marks_rest_where.Goals as goal

pub returns : goal.returns
returns g c = marks_rest_where _
