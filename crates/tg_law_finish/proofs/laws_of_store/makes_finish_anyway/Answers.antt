use Rattle.tg_law_finish.proofs.Finish.Store.{makes_finish_anyway}
use Rattle.tg_law_finish.proofs.laws_of_store.makes_finish_anyway.Goals as goal

pub returns : goal.returns
returns g = makes_finish_anyway
