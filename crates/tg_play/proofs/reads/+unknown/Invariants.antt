use Rattle.std.proofs.Common.{length}
use Rattle.tg_play.proofs.reads.+unknown.Given as goal

abbrev pub decreases-unknown : goal.decreases-unknown
decreases-unknown g l = length l.reads.now
