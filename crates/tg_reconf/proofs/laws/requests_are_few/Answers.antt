use Rattle.tg_reconf.proofs.Counting.{requests_are_few}
use Rattle.tg_reconf.proofs.laws.requests_are_few.Goals as goal

pub returns : goal.returns
returns c = requests_are_few
