use Rattle.tg_law_finish.proofs.Finish.Store.{appends_finish}
use Rattle.tg_law_finish.proofs.laws_of_store.appends_finish.Goals as goal

pub returns : goal.returns
returns g = appends_finish
