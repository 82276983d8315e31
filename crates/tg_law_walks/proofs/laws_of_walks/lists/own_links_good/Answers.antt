use Rattle.tg_law_walks.proofs.Walks.Listing.{own_links_good}
use Rattle.tg_law_walks.proofs.laws_of_walks.lists.own_links_good.Goals as goal

pub returns : goal.returns
returns c = own_links_good
