use Rattle.std.proofs.Common.{length}
use Rattle.tg_seqr.proofs.streams.+put_links.Given as goal

abbrev pub decreases-put_links : goal.decreases-put_links
decreases-put_links l = length l.oids.now
