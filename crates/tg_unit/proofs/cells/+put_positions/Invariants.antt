use Rattle.std.proofs.Common.{length}
use Rattle.tg_unit.proofs.cells.+put_positions.Given as goal

abbrev pub decreases-put_positions : goal.decreases-put_positions
decreases-put_positions l = length l.cells.now
