use Rattle.std.proofs.Common.{rules, arith}
use Rattle.tests_texts.proofs.Printed.{prints_on, prints_end, others_on, others_end, others_stop}
use Rattle.tests_texts.proofs.scripts.put_events.Goals as goal

pub loop-line-preserved : goal.loop-line-preserved
loop-line-preserved c = record {
  counted = omega (arith, c.loop-line.invariant.counted);
  printed = prints_on c.loop-line.out c.put_event.new.out _ c.args.lines.now c.loop-line.line-index _ c.loop-line-test.true (c.in_ok-found.ensures.printed (search rules)) c.loop-line.invariant.printed;
  others = others_on c.args.cluster.now c.args.lines.now c.loop-line.line-index _ c.loop-line-test.true (c.in_ok-found.ensures.event (search rules)) c.loop-line.invariant.others;
}

pub returns-clause-events : goal.returns-clause-events
returns-clause-events c = others_end c.args.cluster.now c.args.lines.now c.loop-line.line-index c.loop-line-test.false c.loop-line.invariant.others

pub returns-clause-printed : goal.returns-clause-printed
returns-clause-printed c = prints_end c.loop-line.out c.args.out.now c.args.lines.now c.loop-line.line-index c.loop-line-test.false c.loop-line.invariant.printed

pub returns-then-not-found-clause-outside : goal.returns-then-not-found-clause-outside
returns-then-not-found-clause-outside c = others_stop c.args.cluster.now c.args.lines.now c.loop-line.line-index _ c.loop-line-test.true (c.in_ok-found.ensures.none (search rules)) c.loop-line.invariant.others
