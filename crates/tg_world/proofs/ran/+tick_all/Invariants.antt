use Rattle.std.proofs.Common.{length}
use Rattle.tg_world.proofs.ran.+tick_all.Given as goal

abbrev pub decreases-tick_all : goal.decreases-tick_all
decreases-tick_all g l = length l.nodes.now
