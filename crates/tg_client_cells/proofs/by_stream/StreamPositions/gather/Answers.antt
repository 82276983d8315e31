use Rattle.std.proofs.Common.{arith}
use Rattle.tg_client_cells.proofs.Streams.{gathered_more}
use Rattle.tg_client_cells.proofs.by_stream.StreamPositions.gather.Goals as goal

pub loop-at-preserved : goal.loop-at-preserved
loop-at-preserved c = record {
  bound = omega (arith, c.loop-at.invariant.bound);
  gathered = gathered_more c.args.self.now c.args.streams.now c.args.low c.args.high c.loop-at.at c.loop-at.positions c.in_ok-positions.positions c.loop-at-test.true c.loop-at.invariant.bound c.loop-at.invariant.gathered c.in_ok-positions.ensures;
}
