use Rattle.tg_law_finish.proofs.Tallies.Settling.{fate_settles}
use Rattle.tg_law_finish.proofs.laws_of_tallies.fate_is_answered.Goals as goal

pub returns : goal.returns
returns g = fate_settles
