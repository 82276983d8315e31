use Rattle.tg_law_finish.proofs.Finish.Store.{few_streams_finish}
use Rattle.tg_law_finish.proofs.laws_of_store.few_streams_finish.Goals as goal

pub returns : goal.returns
returns g = few_streams_finish
