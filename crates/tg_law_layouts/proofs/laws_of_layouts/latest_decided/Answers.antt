use Rattle.tg_law_layouts.proofs.Layouts.Deciding.{latest_decided}
use Rattle.tg_law_layouts.proofs.laws_of_layouts.latest_decided.Goals as goal

pub returns : goal.returns
returns g c = latest_decided _
