use Rattle.tg_law_walks.proofs.Walks.Seqrs.{seqrs_tell}
use Rattle.tg_law_walks.proofs.laws_of_walks.lists.seqrs_tell.Goals as goal

pub returns : goal.returns
returns c = seqrs_tell
