use Rattle.std.proofs.Common.{length}
use Rattle.tg_client_cells.proofs.by_stream.StreamPositions.+any_has.Given as goal

abbrev pub decreases-any_has : goal.decreases-any_has
decreases-any_has l = length l.streams.now
