use Rattle.std.proofs.Common.{rules}
use Rattle.tg_base.specs.Orders.{node_eq}
use Rattle.tg_base.proofs.ids.NodeId.is_same.Goals as goal

pub returns-clause-value : goal.returns-clause-value
unfolding node_eq
returns-clause-value c = search rules
