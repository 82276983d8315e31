use Rattle.tg_law_walks.proofs.Lists.Runs.{seqrs_are_true}
use Rattle.tg_law_walks.proofs.laws_of_lists.seqrs_are_true.Goals as goal

pub returns : goal.returns
returns g c = seqrs_are_true _
