use Rattle.std.proofs.Common.{length}
use Rattle.tg_wire.proofs.rules.+links_rise.Given as goal

abbrev pub decreases-links_rise : goal.decreases-links_rise
decreases-links_rise l = length l.links.now
