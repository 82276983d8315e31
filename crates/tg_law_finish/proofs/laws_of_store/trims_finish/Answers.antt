use Rattle.tg_law_finish.proofs.Finish.Store.{trims_finish}
use Rattle.tg_law_finish.proofs.laws_of_store.trims_finish.Goals as goal

pub returns : goal.returns
returns g = trims_finish
