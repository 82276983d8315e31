use Rattle.std.proofs.Common.{◌∙◌, refl, sym, ap, subst, arith}
use Rattle.std.specs.Ordering.{nat_cmp}
use Rattle.std.specs.Map.{remove_entry}
use Rattle.std.specs.BTreeMap.{is_at}
use Rattle.tg_unit.specs.Segments.{cells_of, AreSegments, LacksFrom}
use Rattle.tg_unit.proofs.Trims.{weaker, removed-whole, trim-remove}
use Rattle.tg_unit.proofs.cells.drop_places.Goals as goal

pub returns-then-has_from-clause-whole : goal.returns-then-has_from-clause-whole
returns-then-has_from-clause-whole c = weaker c.clear_below.new.segments.entries 0 c.args.num (omega arith) c.clear_below.ensures.whole

pub returns-else-has_from-clause-whole : goal.returns-else-has_from-clause-whole
returns-else-has_from-clause-whole c =
    subst (AreSegments 0) (sym c.remove.ensures.entries)
    (weaker (remove_entry (is_at (nat_cmp c.args.num)) c.args.segments.now.entries) 0 c.args.num (omega arith) (removed-whole c.args.segments.now.entries c.args.num c.args.num c.requires.whole))

pub returns-else-has_from-clause-cells : goal.returns-else-has_from-clause-cells
returns-else-has_from-clause-cells c =
    ap cells_of c.remove.ensures.entries
    ∙ trim-remove c.args.segments.now.entries c.args.num c.args.place c.requires.place (λ s found. subst (LacksFrom c.args.place) found (c.if-has_from.ensures.none refl)) c.requires.whole
