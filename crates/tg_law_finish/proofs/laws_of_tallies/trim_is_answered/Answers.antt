use Rattle.tg_law_finish.proofs.Tallies.Trimming.{trim_settles}
use Rattle.tg_law_finish.proofs.laws_of_tallies.trim_is_answered.Goals as goal

pub returns : goal.returns
returns g = trim_settles
