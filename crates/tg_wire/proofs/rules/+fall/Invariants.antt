use Rattle.std.proofs.Common.{length}
use Rattle.tg_wire.proofs.rules.+fall.Given as goal

abbrev pub decreases-fall : goal.decreases-fall
decreases-fall l = length l.positions.now
