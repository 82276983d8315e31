use Rattle.std.proofs.Common.{length}
use Rattle.tg_append.proofs.append.+put_oids.Given as goal

abbrev pub decreases-put_oids : goal.decreases-put_oids
decreases-put_oids l = length l.streams.now
