use Rattle.tg_law_walks.proofs.Drafts.Drafts.{records_were_begun}
use Rattle.tg_law_walks.proofs.laws_of_drafts.records_were_begun.Goals as goal

pub returns : goal.returns
returns g c = records_were_begun _
