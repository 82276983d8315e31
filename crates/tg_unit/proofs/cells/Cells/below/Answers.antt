use Rattle.tg_unit.proofs.Positions.{are-near}
use Rattle.tg_unit.proofs.cells.Cells.below.Goals as goal

pub below_of-requires : goal.below_of-requires
below_of-requires c = are-near c.self.inside.segments.entries 0 c.self.invariant
