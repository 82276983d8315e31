use Rattle.tg_law_headline.proofs.Leaves.Passing.{views_pass}
use Rattle.tg_law_headline.proofs.laws_of_leaves.views_pass.Goals as goal

pub returns : goal.returns
returns g c = views_pass _
