use Rattle.std.proofs.Common.{length}
use Rattle.tg_world_servers.proofs.sizes.+chains_bytes.Given as goal

abbrev pub decreases-chains_bytes : goal.decreases-chains_bytes
decreases-chains_bytes l = length l.chains.now
