use Rattle.std.proofs.Common.{sym}
use Rattle.tg_unit.proofs.Found.{found-whole}
use Rattle.tg_unit.proofs.cells.has_from.Goals as goal

pub has_from-requires-clause-whole : goal.has_from-requires-clause-whole
has_from-requires-clause-whole c =
    (found-whole c.args.segments.now.entries c.args.num c.args.num c.in-Some.segment.now (sym c.in-Some.ensures.value) c.requires.whole).0
