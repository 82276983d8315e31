use Rattle.tg_client_cells.proofs.Leaving.{leaves_below}
use Rattle.tg_client_cells.proofs.laws.walks_leave_below.Goals as goal

pub returns : goal.returns
returns c = leaves_below
