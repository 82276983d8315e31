use Rattle.std.proofs.Common.{length}
use Rattle.tg_world_log.proofs.history.+put_ops.Given as goal

abbrev pub decreases-put_ops : goal.decreases-put_ops
decreases-put_ops g l = length l.writes.now
