use Rattle.tg_law_finish.proofs.Finish.Store.{commands_finish}
use Rattle.tg_law_finish.proofs.laws_of_store.commands_finish.Goals as goal

pub returns : goal.returns
returns g = commands_finish
