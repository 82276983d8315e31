use Rattle.tg_law_walks.proofs.Walks.Single.{one_page_walks}
use Rattle.tg_law_walks.proofs.laws_of_walks.one.one_page_walks.Goals as goal

pub returns : goal.returns
returns c = one_page_walks
