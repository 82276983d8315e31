use Rattle.tg_law_finish.proofs.Finish.Store.{rescues_finish}
use Rattle.tg_law_finish.proofs.laws_of_store.rescues_finish.Goals as goal

pub returns : goal.returns
returns g = rescues_finish
