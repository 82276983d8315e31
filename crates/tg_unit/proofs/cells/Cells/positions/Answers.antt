use Rattle.tg_unit.proofs.Positions.{are-near}
use Rattle.tg_unit.proofs.cells.Cells.positions.Goals as goal

pub positions_of-requires : goal.positions_of-requires
positions_of-requires c = are-near c.self.inside.segments.entries 0 c.self.invariant
