use Rattle.tg_law_layouts.proofs.Layouts.Deciding.{one_layout}
use Rattle.tg_law_layouts.proofs.laws_of_layouts.one_layout.Goals as goal

pub returns : goal.returns
returns g c = one_layout _
