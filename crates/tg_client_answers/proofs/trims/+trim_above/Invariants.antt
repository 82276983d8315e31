use Rattle.std.proofs.Common.{length}
use Rattle.tg_client_answers.proofs.trims.+trim_above.Given as goal

abbrev pub decreases-trim_above : goal.decreases-trim_above
decreases-trim_above g l = length l.trims.now
