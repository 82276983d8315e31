use Rattle.tg_law_finish.proofs.Tallies.Closing.{end_settles}
use Rattle.tg_law_finish.proofs.laws_of_tallies.end_is_answered.Goals as goal

pub returns : goal.returns
returns g = end_settles
