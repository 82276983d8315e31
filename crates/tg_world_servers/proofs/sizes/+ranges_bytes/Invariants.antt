use Rattle.std.proofs.Common.{length}
use Rattle.tg_world_servers.proofs.sizes.+ranges_bytes.Given as goal

abbrev pub decreases-ranges_bytes : goal.decreases-ranges_bytes
decreases-ranges_bytes l = length l.ranges.now
