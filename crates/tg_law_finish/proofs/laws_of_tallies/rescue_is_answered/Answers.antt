use Rattle.tg_law_finish.proofs.Tallies.Saving.{rescue_settles}
use Rattle.tg_law_finish.proofs.laws_of_tallies.rescue_is_answered.Goals as goal

pub returns : goal.returns
returns g = rescue_settles
