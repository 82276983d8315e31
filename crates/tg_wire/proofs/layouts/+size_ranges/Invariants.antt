use Rattle.std.proofs.Common.{length}
use Rattle.tg_wire.proofs.layouts.+size_ranges.Given as goal

abbrev pub decreases-size_ranges : goal.decreases-size_ranges
decreases-size_ranges l = length l.values.now
