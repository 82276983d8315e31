use Rattle.tg_law_layouts.proofs.Layouts.Deciding.{layouts_follow}
use Rattle.tg_law_layouts.proofs.laws_of_layouts.layouts_follow.Goals as goal

pub returns : goal.returns
returns g c = layouts_follow _
