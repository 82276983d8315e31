use Rattle.tg_cell.specs.Signed.{in_of_fits, spells_i64}
use Rattle.tg_cell.proofs.counter.whole.Goals as goal

pub returns-clause-fits : goal.returns-clause-fits
returns-clause-fits c = spells_i64 c.args.by (in_of_fits c.args.by c.ranges.by)
