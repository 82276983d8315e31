use Rattle.std.proofs.Common.{length}
use Rattle.tg_proj.proofs.refusal.+lost_fault.Given as goal

abbrev pub decreases-lost_fault : goal.decreases-lost_fault
decreases-lost_fault l = length l.ranges.now
