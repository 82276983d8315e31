use Rattle.std.proofs.Common.{arith}
use Rattle.tg_wire.proofs.Parts.{gone_law}
use Rattle.tg_wire.proofs.Building.{read_fits}
use Rattle.tg_wire.proofs.layouts.gone_in.Goals as goal

pub returns-clause-fits : goal.returns-clause-fits
returns-clause-fits c = read_fits gone_law.exact c.args.bytes.now c.gone_units.result (λ x. (x.0, x.1.now)) (λ i. omega (arith, c.type_inv.bytes i)) c.gone_units.ensures
