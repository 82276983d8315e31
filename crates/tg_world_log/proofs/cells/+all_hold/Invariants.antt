use Rattle.std.proofs.Common.{length}
use Rattle.tg_world_log.proofs.cells.+all_hold.Given as goal

abbrev pub decreases-all_hold : goal.decreases-all_hold
decreases-all_hold l = length l.chain.now
