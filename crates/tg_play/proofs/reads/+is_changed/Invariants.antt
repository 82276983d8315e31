use Rattle.std.proofs.Common.{length}
use Rattle.tg_play.proofs.reads.+is_changed.Given as goal

abbrev pub decreases-is_changed : goal.decreases-is_changed
decreases-is_changed g l = length l.reads.now
