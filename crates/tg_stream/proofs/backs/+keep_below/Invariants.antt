use Rattle.std.proofs.Common.{length}
use Rattle.tg_stream.proofs.backs.+keep_below.Given as goal

abbrev pub decreases-keep_below : goal.decreases-keep_below
decreases-keep_below l = length l.positions.now
