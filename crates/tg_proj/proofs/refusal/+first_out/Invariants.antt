use Rattle.std.proofs.Common.{length}
use Rattle.tg_proj.proofs.refusal.+first_out.Given as goal

abbrev pub decreases-first_out : goal.decreases-first_out
decreases-first_out l = length l.units.now
