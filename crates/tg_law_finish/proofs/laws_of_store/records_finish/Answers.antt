use Rattle.tg_law_finish.proofs.Finish.Store.{records_finish}
use Rattle.tg_law_finish.proofs.laws_of_store.records_finish.Goals as goal

pub returns : goal.returns
returns g = records_finish
