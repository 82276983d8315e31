use Rattle.tg_reconf.proofs.Ending.{starts_are_own}
use Rattle.tg_reconf.proofs.laws.starts_are_own.Goals as goal

pub returns : goal.returns
returns c = starts_are_own
