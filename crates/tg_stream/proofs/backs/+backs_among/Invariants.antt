use Rattle.std.proofs.Common.{length}
use Rattle.tg_stream.proofs.backs.+backs_among.Given as goal

abbrev pub decreases-backs_among : goal.decreases-backs_among
decreases-backs_among l = length l.streams.now
