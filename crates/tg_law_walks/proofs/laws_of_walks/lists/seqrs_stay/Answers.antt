use Rattle.tg_law_walks.proofs.Walks.Seqrs.{seqrs_stay}
use Rattle.tg_law_walks.proofs.laws_of_walks.lists.seqrs_stay.Goals as goal

pub returns : goal.returns
returns c = seqrs_stay
