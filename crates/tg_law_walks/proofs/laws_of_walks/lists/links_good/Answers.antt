use Rattle.tg_law_walks.proofs.Walks.Listing.{links_good}
use Rattle.tg_law_walks.proofs.laws_of_walks.lists.links_good.Goals as goal

pub returns : goal.returns
returns c = links_good
