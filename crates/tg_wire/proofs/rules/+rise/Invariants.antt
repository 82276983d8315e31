use Rattle.std.proofs.Common.{length}
use Rattle.tg_wire.proofs.rules.+rise.Given as goal

abbrev pub decreases-rise : goal.decreases-rise
decreases-rise l = length l.oids.now
