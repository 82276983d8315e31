use Rattle.std.proofs.Common.{length}
use Rattle.tg_chain.proofs.units.+put_chains.Given as goal

abbrev pub decreases-put_chains : goal.decreases-put_chains
decreases-put_chains l = length l.chains.now
