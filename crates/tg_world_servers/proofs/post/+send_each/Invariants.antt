use Rattle.std.proofs.Common.{length}
use Rattle.tg_world_servers.proofs.post.+send_each.Given as goal

abbrev pub decreases-send_each : goal.decreases-send_each
decreases-send_each l = length l.outs
