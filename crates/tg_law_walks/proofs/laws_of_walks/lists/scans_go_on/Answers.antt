use Rattle.tg_law_walks.proofs.Walks.Listing.{scans_go_on}
use Rattle.tg_law_walks.proofs.laws_of_walks.lists.scans_go_on.Goals as goal

pub returns : goal.returns
returns c = scans_go_on
