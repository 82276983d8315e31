use Rattle.tg_law_headline.proofs.Points.Commits.{worked_point}
use Rattle.tg_law_headline.proofs.laws_of_points.worked.commit_has_point.Goals as goal

pub returns : goal.returns
returns c = worked_point
