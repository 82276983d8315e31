use Rattle.std.proofs.Common.{sym, subst}
use Rattle.tg_unit.specs.Segments.{cells_below, cells_of, AreLow}
use Rattle.tg_unit.proofs.Positions.{below_more, first-near}
use Rattle.tg_unit.proofs.cells.below_of.Goals as goal

pub put_below-requires-clause-near : goal.put_below-requires-clause-near
put_below-requires-clause-near c = (first-near c.loop-num.num-iterator c.next.new.self c.in-Some.num.now c.in-Some.segment.now c.in-Some.ensures.steps c.loop-num.invariant.near).0

pub put_below-requires-clause-places : goal.put_below-requires-clause-places
put_below-requires-clause-places c =
    subst AreLow (sym c.as_slice.ensures) (first-near c.loop-num.num-iterator c.next.new.self c.in-Some.num.now c.in-Some.segment.now c.in-Some.ensures.steps c.loop-num.invariant.near).1

pub loop-num-preserved : goal.loop-num-preserved
loop-num-preserved c = record {
  told =
      below_more c.args.low c.loop-num.found.items c.put_below.new.found.items (cells_below c.args.low (cells_of c.args.segments.now.entries)) c.in-Some.num.now c.in-Some.segment.now c.as_slice.result.now
      c.loop-num.num-iterator c.next.new.self c.in_ok-put_below.ensures c.as_slice.ensures c.in-Some.ensures.steps c.loop-num.invariant.told;
  near = (first-near c.loop-num.num-iterator c.next.new.self c.in-Some.num.now c.in-Some.segment.now c.in-Some.ensures.steps c.loop-num.invariant.near).2;
}
