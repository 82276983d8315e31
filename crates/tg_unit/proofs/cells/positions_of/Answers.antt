use Rattle.std.proofs.Common.{sym, subst}
use Rattle.tg_protocol.specs.Logs.{positions}
use Rattle.tg_unit.specs.Segments.{cells_of, AreLow}
use Rattle.tg_unit.proofs.Positions.{first-near, positions_more}
use Rattle.tg_unit.proofs.cells.positions_of.Goals as goal

pub put_positions-requires-clause-near : goal.put_positions-requires-clause-near
put_positions-requires-clause-near c = (first-near c.loop-num.num-iterator c.next.new.self c.in-Some.num.now c.in-Some.segment.now c.in-Some.ensures.steps c.loop-num.invariant.near).0

pub put_positions-requires-clause-places : goal.put_positions-requires-clause-places
put_positions-requires-clause-places c =
    subst AreLow (sym c.as_slice.ensures) (first-near c.loop-num.num-iterator c.next.new.self c.in-Some.num.now c.in-Some.segment.now c.in-Some.ensures.steps c.loop-num.invariant.near).1

pub loop-num-preserved : goal.loop-num-preserved
loop-num-preserved c = record {
  told =
      positions_more c.loop-num.found c.put_positions.new.found (positions (cells_of c.args.segments.now.entries)) c.in-Some.num.now c.in-Some.segment.now c.as_slice.result.now c.loop-num.num-iterator c.next.new.self
      c.in_ok-put_positions.ensures c.as_slice.ensures c.in-Some.ensures.steps c.loop-num.invariant.told;
  near = (first-near c.loop-num.num-iterator c.next.new.self c.in-Some.num.now c.in-Some.segment.now c.in-Some.ensures.steps c.loop-num.invariant.near).2;
}
