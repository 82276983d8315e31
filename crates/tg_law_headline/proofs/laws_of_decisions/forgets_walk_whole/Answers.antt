use Rattle.tg_law_headline.proofs.Decisions.Wholes.{forgets_walk_whole}
use Rattle.tg_law_headline.proofs.laws_of_decisions.forgets_walk_whole.Goals as goal

pub returns : goal.returns
returns g c = forgets_walk_whole _
