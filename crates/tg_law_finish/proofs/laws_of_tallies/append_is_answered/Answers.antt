use Rattle.tg_law_finish.proofs.Tallies.Settling.{append_settles}
use Rattle.tg_law_finish.proofs.laws_of_tallies.append_is_answered.Goals as goal

pub returns : goal.returns
returns g = append_settles
