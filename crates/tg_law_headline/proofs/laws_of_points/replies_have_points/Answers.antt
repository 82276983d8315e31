use Rattle.tg_law_headline.proofs.Points.Points.{replies_have_points}
use Rattle.tg_law_headline.proofs.laws_of_points.replies_have_points.Goals as goal

pub returns : goal.returns
returns g c = replies_have_points _
