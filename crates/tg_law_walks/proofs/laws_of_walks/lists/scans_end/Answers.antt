use Rattle.tg_law_walks.proofs.Walks.Listing.{scans_end}
use Rattle.tg_law_walks.proofs.laws_of_walks.lists.scans_end.Goals as goal

pub returns : goal.returns
returns c = scans_end
