use Rattle.tg_law_finish.proofs.Tallies.Filling.{fill_settles}
use Rattle.tg_law_finish.proofs.laws_of_tallies.fill_is_answered.Goals as goal

pub returns : goal.returns
returns g = fill_settles
