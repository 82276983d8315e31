use Rattle.tg_law_headline.proofs.Decisions.Staying.{decided_stays}
use Rattle.tg_law_headline.proofs.laws_of_decisions.decided_stays.Goals as goal

pub returns : goal.returns
returns g c = decided_stays _
