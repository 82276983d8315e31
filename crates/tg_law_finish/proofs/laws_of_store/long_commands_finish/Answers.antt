use Rattle.tg_law_finish.proofs.Finish.Store.{long_commands_finish}
use Rattle.tg_law_finish.proofs.laws_of_store.long_commands_finish.Goals as goal

pub returns : goal.returns
returns g = long_commands_finish
