use Rattle.tg_law_walks.proofs.Walks.Turns.{walks_feed}
use Rattle.tg_law_walks.proofs.laws_of_walks.walks_feed.Goals as goal

pub returns : goal.returns
returns c = walks_feed
