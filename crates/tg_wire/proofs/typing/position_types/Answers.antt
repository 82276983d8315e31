use Rattle.std.proofs.Common.{arith}
use Rattle.tg_wire.proofs.Splitting.{all_long}
use Rattle.tg_wire.proofs.typing.position_types.Goals as goal

pub returns : goal.returns
returns c = all_long c.args.positions.now (λ i. omega (arith, c.type_inv.positions i))
