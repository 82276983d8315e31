use Rattle.tg_client_cells.proofs.Keeping.{keeps_settled}
use Rattle.tg_client_cells.proofs.laws.walks_keep_settled.Goals as goal

pub returns : goal.returns
returns c = keeps_settled
