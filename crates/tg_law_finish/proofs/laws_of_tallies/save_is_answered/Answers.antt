use Rattle.tg_law_finish.proofs.Tallies.Saving.{save_settles}
use Rattle.tg_law_finish.proofs.laws_of_tallies.save_is_answered.Goals as goal

pub returns : goal.returns
returns g = save_settles
