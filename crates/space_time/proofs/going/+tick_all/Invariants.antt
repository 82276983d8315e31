use Rattle.std.proofs.Common.{length}
use Rattle.space_time.proofs.going.+tick_all.Given as goal

abbrev pub decreases-tick_all : goal.decreases-tick_all
decreases-tick_all l = length l.nodes.now
