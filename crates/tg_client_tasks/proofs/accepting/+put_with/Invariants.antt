use Rattle.std.proofs.Common.{length}
use Rattle.tg_client_tasks.proofs.accepting.+put_with.Given as goal

abbrev pub decreases-put_with : goal.decreases-put_with
decreases-put_with l = length l.oids.now
