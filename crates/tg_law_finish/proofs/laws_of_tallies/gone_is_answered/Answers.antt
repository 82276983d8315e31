use Rattle.tg_law_finish.proofs.Tallies.Lowered.{gone_settles}
use Rattle.tg_law_finish.proofs.laws_of_tallies.gone_is_answered.Goals as goal

pub returns : goal.returns
returns g = gone_settles
