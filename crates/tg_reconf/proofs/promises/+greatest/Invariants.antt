use Rattle.std.proofs.Common.{length}
use Rattle.tg_reconf.proofs.promises.+greatest.Given as goal

abbrev pub decreases-greatest : goal.decreases-greatest
decreases-greatest l = length l.promises
