use Rattle.std.proofs.Common.{length}
use Rattle.tg_append.proofs.links.+name_streams.Given as goal

abbrev pub decreases-name_streams : goal.decreases-name_streams
decreases-name_streams l = length l.streams.now
