use Rattle.tg_law_walks.proofs.Drafts.Drafts.{entries_were_begun}
use Rattle.tg_law_walks.proofs.laws_of_drafts.entries_were_begun.Goals as goal

pub returns : goal.returns
returns g c = entries_were_begun _
