use Rattle.tg_law_finish.proofs.Finish.Store.{copies_finish}
use Rattle.tg_law_finish.proofs.laws_of_store.copies_finish.Goals as goal

pub returns : goal.returns
returns g = copies_finish
