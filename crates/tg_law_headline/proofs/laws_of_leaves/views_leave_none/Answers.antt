use Rattle.tg_law_headline.proofs.Leaves.Leaving.{views_leave_none}
use Rattle.tg_law_headline.proofs.laws_of_leaves.views_leave_none.Goals as goal

pub returns : goal.returns
returns g c = views_leave_none _
