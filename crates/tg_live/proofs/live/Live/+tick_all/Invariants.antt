use Rattle.std.proofs.Common.{length}
use Rattle.tg_live.proofs.live.Live.+tick_all.Given as goal

abbrev pub decreases-tick_all : goal.decreases-tick_all
decreases-tick_all g l = length l.nodes.now
