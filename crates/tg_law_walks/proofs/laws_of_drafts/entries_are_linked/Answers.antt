use Rattle.tg_law_walks.proofs.Drafts.Drafts.{entries_are_linked}
use Rattle.tg_law_walks.proofs.laws_of_drafts.entries_are_linked.Goals as goal

pub returns : goal.returns
returns g c = entries_are_linked _
