use Rattle.tg_law_finish.proofs.Finish.Store.{calm_commands_finish}
use Rattle.tg_law_finish.proofs.laws_of_store.calm_commands_finish.Goals as goal

pub returns : goal.returns
returns g = calm_commands_finish
