use Rattle.tg_law_headline.proofs.Decisions.Forgets.{forgets_decide}
use Rattle.tg_law_headline.proofs.laws_of_decisions.forgets_decide.Goals as goal

pub returns : goal.returns
returns g c = forgets_decide _
