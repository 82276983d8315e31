use Rattle.tg_law_layouts.proofs.Layouts.Deciding.{layouts_are_known}
use Rattle.tg_law_layouts.proofs.laws_of_layouts.layouts_are_known.Goals as goal

pub returns : goal.returns
returns g c = layouts_are_known _
