use Rattle.std.proofs.Common.{length}
use Rattle.tg_chain.proofs.units.+put_units.Given as goal

abbrev pub decreases-put_units : goal.decreases-put_units
decreases-put_units l = length l.some.now
