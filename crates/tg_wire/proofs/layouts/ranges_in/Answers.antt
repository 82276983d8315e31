use Rattle.std.proofs.Common.{arith}
use Rattle.tg_wire.proofs.Parts.{ranges_law}
use Rattle.tg_wire.proofs.Building.{read_fits}
use Rattle.tg_wire.proofs.layouts.ranges_in.Goals as goal

pub returns-clause-fits : goal.returns-clause-fits
returns-clause-fits c = read_fits (ranges_law c.args.start).exact c.args.bytes.now c.counted_ranges.result (λ x. (x.0, x.1.now)) (λ i. omega (arith, c.type_inv.bytes i)) c.counted_ranges.ensures
