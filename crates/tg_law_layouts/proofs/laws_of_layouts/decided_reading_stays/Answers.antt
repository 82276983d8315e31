use Rattle.tg_law_layouts.proofs.Layouts.Deciding.{decided_reading_stays}
use Rattle.tg_law_layouts.proofs.laws_of_layouts.decided_reading_stays.Goals as goal

pub returns : goal.returns
returns g c = decided_reading_stays _
