use Rattle.tg_reconf.proofs.Staying.{numbers_stay_drawn}
use Rattle.tg_reconf.proofs.laws.numbers_stay_drawn.Goals as goal

pub returns : goal.returns
returns c = numbers_stay_drawn
