use Rattle.std.proofs.Common.{length}
use Rattle.tg_append.proofs.links.+are_near.Given as goal

abbrev pub decreases-are_near : goal.decreases-are_near
decreases-are_near l = length l.positions.now
