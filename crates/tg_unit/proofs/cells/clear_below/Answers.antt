use Rattle.std.proofs.Common.{◌≤◌, ◌∙◌, length, sym, ap, subst}
use Rattle.tg_unit.specs.Segments.{cells_of, AreSegments, HasFrom}
use Rattle.tg_unit.proofs.Found.{found-whole}
use Rattle.tg_unit.proofs.Trims.{set-whole, trim-set}
use Rattle.tg_unit.proofs.cells.clear_below.Goals as goal

pub drop_below-requires-clause-whole : goal.drop_below-requires-clause-whole
drop_below-requires-clause-whole c =
    (found-whole c.args.segments.now.entries c.args.num c.args.num c.in-Some.segment.now (sym c.in-Some.ensures.value) c.requires.whole).0

pub returns-in-Some-clause-whole : goal.returns-in-Some-clause-whole
returns-in-Some-clause-whole c =
    let some : 1 ≤ length c.drop_below.new.self.cells =
    subst (λ es. 1 ≤ length es) (sym c.drop_below.ensures.cells) (subst (HasFrom c.args.place) (sym c.in-Some.ensures.value) c.requires.some) in
    subst (AreSegments c.args.num) (sym (c.get_mut.follows.holds c.drop_below.new.self).0)
    (set-whole c.args.segments.now.entries c.args.num c.args.num c.drop_below.new.self c.drop_below.ensures.whole some c.requires.whole)

pub returns-in-Some-clause-cells : goal.returns-in-Some-clause-cells
returns-in-Some-clause-cells c =
    ap cells_of (c.get_mut.follows.holds c.drop_below.new.self).0
    ∙ trim-set c.args.segments.now.entries c.args.num c.args.place c.in-Some.segment.now c.drop_below.new.self c.requires.place (sym c.in-Some.ensures.value)
    c.drop_below.ensures.cells c.requires.whole
