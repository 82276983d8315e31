use Rattle.std.proofs.Common.{length}
use Rattle.tg_client_tasks.proofs.refusals.+first.Given as goal

abbrev pub decreases-first : goal.decreases-first
decreases-first l = length l.tests.now
