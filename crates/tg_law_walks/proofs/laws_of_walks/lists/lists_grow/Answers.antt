use Rattle.tg_law_walks.proofs.Walks.Listing.{lists_grow}
use Rattle.tg_law_walks.proofs.laws_of_walks.lists.lists_grow.Goals as goal

pub returns : goal.returns
returns c = lists_grow
