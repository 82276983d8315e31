use Rattle.std.proofs.Common.{rules, append_assoc}
use Rattle.tg_client_cells.proofs.positions.put_both.Goals as goal

pub returns : goal.returns
returns c = search (rules, append_assoc)
