use Rattle.std.proofs.Common.{length}
use Rattle.tg_proj.proofs.refusal.+first_out_of_chains.Given as goal

abbrev pub decreases-first_out_of_chains : goal.decreases-first_out_of_chains
decreases-first_out_of_chains l = length l.chains.now
