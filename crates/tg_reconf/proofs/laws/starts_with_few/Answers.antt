use Rattle.tg_reconf.proofs.Counting.{starts_with_few}
use Rattle.tg_reconf.proofs.laws.starts_with_few.Goals as goal

pub returns : goal.returns
returns c = starts_with_few
