use Rattle.tg_law_cells.proofs.Order.Tails.{tails_precede}
use Rattle.tg_law_cells.proofs.laws_of_order.tails_precede.Goals as goal

pub returns : goal.returns
returns g c = tails_precede _
