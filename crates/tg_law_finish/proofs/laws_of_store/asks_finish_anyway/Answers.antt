use Rattle.tg_law_finish.proofs.Finish.Store.{asks_finish_anyway}
use Rattle.tg_law_finish.proofs.laws_of_store.asks_finish_anyway.Goals as goal

pub returns : goal.returns
returns g = asks_finish_anyway
