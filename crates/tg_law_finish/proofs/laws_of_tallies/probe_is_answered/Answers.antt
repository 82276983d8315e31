use Rattle.tg_law_finish.proofs.Tallies.Probing.{probe_settles}
use Rattle.tg_law_finish.proofs.laws_of_tallies.probe_is_answered.Goals as goal

pub returns : goal.returns
returns g = probe_settles
