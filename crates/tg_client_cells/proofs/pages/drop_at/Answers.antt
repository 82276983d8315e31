use Rattle.std.proofs.Common.{arith}
use Rattle.tg_client_cells.proofs.Loops.{one_more}
use Rattle.tg_client_cells.proofs.pages.drop_at.Goals as goal

pub loop-at-preserved : goal.loop-at-preserved
loop-at-preserved c = record {
  within = omega (arith, c.loop-at.invariant.within);
  without = one_more c.args.positions.now c.loop-at.at c.args.cells.now.entries c.loop-at.cells.entries c.drop_one.new.cells.entries c.loop-at-test.true c.loop-at.invariant.within c.loop-at.invariant.without c.drop_one.ensures;
}
