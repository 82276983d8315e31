use Rattle.std.proofs.Common.{length}
use Rattle.tg_client_answers.proofs.rescue.+put_wider.Given as goal

abbrev pub decreases-put_wider : goal.decreases-put_wider
decreases-put_wider l = length l.oids.now
