use Rattle.tg_law_cells.proofs.Order.Later.{tails_rise}
use Rattle.tg_law_cells.proofs.laws_of_order.tails_rise.Goals as goal

pub returns : goal.returns
returns g c = tails_rise _
