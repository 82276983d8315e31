use Rattle.std.proofs.Common.{◌∙◌, refl, subst}
use Rattle.tg_unit.specs.Segments.{BeginsBelow, BeginsFrom}
use Rattle.tg_unit.proofs.Drops.{drops-one, drops-end}
use Rattle.tg_unit.proofs.segment.drop_cells.Goals as goal

pub loop-cells-preserved-in-loop-cells : goal.loop-cells-preserved-in-loop-cells
loop-cells-preserved-in-loop-cells c =
    let below = subst (BeginsBelow c.args.place) c.as_slice.ensures (c.loop-cells-test.ensures.below refl) in
    let dropped = drops-one c.loop-cells.cells c.remove.new.self c.args.place below c.remove.ensures.rest c.loop-cells.invariant.rising in
    record { kept = dropped.kept ∙ c.loop-cells.invariant.kept; rising = dropped.rising }

pub loop-cells-preserved : goal.loop-cells-preserved
loop-cells-preserved c =
    let below = subst (BeginsBelow c.args.place) c.as_slice.ensures (c.loop-cells-test.ensures.below refl) in
    let dropped = drops-one c.loop-cells.cells c.remove.new.self c.args.place below c.remove.ensures.rest c.loop-cells.invariant.rising in
    record { kept = dropped.kept ∙ c.loop-cells.invariant.kept; rising = dropped.rising }

pub returns : goal.returns
returns c =
    drops-end c.loop-cells.cells c.args.place (subst (BeginsFrom c.args.place) c.as_slice.ensures (c.loop-cells-test.ensures.from refl)) c.loop-cells.invariant.rising
    ∙ c.loop-cells.invariant.kept
