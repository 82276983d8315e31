use Rattle.tg_law_walks.proofs.Drafts.Worked.{worked_links}
use Rattle.tg_law_walks.proofs.laws_of_drafts.links_go_on.Goals as goal

pub returns : goal.returns
returns g = worked_links
