use Rattle.std.proofs.Common.{length}
use Rattle.tg_wire.proofs.typing.+link_types.Given as goal

abbrev pub decreases-link_types : goal.decreases-link_types
decreases-link_types l = length l.links.now
