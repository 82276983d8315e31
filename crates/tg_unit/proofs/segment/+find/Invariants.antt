use Rattle.std.proofs.Common.{length}
use Rattle.tg_unit.proofs.segment.+find.Given as goal

abbrev pub decreases-find : goal.decreases-find
decreases-find l = length l.cells.now
