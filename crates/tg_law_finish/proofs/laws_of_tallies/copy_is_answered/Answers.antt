use Rattle.tg_law_finish.proofs.Tallies.Copying.{copy_settles}
use Rattle.tg_law_finish.proofs.laws_of_tallies.copy_is_answered.Goals as goal

pub returns : goal.returns
returns g = copy_settles
