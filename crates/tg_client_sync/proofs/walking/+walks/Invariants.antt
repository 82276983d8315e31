use Rattle.std.proofs.Common.{length}
use Rattle.tg_client_sync.proofs.walking.+walks.Given as goal

abbrev pub decreases-walks : goal.decreases-walks
decreases-walks g l = length l.oids
