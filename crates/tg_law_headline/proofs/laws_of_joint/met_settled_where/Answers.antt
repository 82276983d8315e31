use Rattle.tg_law_headline.proofs.Joint.Trimmed.{met_settled_where}
use Rattle.tg_law_headline.proofs.laws_of_joint.met_settled_where.Goals as goal

pub returns : goal.returns
returns g c = met_settled_where _
