use Rattle.tg_client_cells.proofs.Ordered.{finds_in_order}
use Rattle.tg_client_cells.proofs.laws.walks_find_in_order.Goals as goal

pub returns : goal.returns
returns c = finds_in_order
