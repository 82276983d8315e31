use Rattle.tg_law_headline.proofs.Decisions.Following.{decisions_follow}
use Rattle.tg_law_headline.proofs.laws_of_decisions.decisions_follow.Goals as goal

pub returns : goal.returns
returns g c = decisions_follow _
