use Rattle.std.proofs.Common.{length}
use Rattle.tg_chain.proofs.waits.+has_rid.Given as goal

abbrev pub decreases-has_rid : goal.decreases-has_rid
decreases-has_rid l = length l.waits.now
