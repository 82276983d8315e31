use Rattle.tg_law_headline.proofs.Points.Points.{replies_precede_places}
use Rattle.tg_law_headline.proofs.laws_of_points.replies_precede_places.Goals as goal

pub returns : goal.returns
returns g c = replies_precede_places _
