use Rattle.tg_law_headline.proofs.Decisions.Following.{decisions_have_records}
use Rattle.tg_law_headline.proofs.laws_of_decisions.decisions_have_records.Goals as goal

pub returns : goal.returns
returns g c = decisions_have_records _
