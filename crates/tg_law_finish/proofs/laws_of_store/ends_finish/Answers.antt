use Rattle.tg_law_finish.proofs.Finish.Store.{ends_finish}
use Rattle.tg_law_finish.proofs.laws_of_store.ends_finish.Goals as goal

pub returns : goal.returns
returns g = ends_finish
