use Rattle.tg_law_cells.proofs.Order.Tails.{confirmed_tails_precede}
use Rattle.tg_law_cells.proofs.laws_of_order.confirmed_tails_precede.Goals as goal

pub returns : goal.returns
returns g c = confirmed_tails_precede _
