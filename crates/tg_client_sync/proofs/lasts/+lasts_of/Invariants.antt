use Rattle.std.proofs.Common.{length}
use Rattle.tg_client_sync.proofs.lasts.+lasts_of.Given as goal

abbrev pub decreases-lasts_of : goal.decreases-lasts_of
decreases-lasts_of l = length l.lasts.now
