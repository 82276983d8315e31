use Rattle.std.proofs.Common.{arith}
use Rattle.tg_world_servers.proofs.Waits.{first_within, goes_on, ends}
use Rattle.tg_world_servers.proofs.waiting.next_open.Goals as goal

pub loop-first-preserved : goal.loop-first-preserved
loop-first-preserved c = goes_on c.loop-first.first c.args.waits.now c.loop-first.invariant c.loop-first-test.true c.if-not-waits-first.true

pub returns-else-not-waits-first : goal.returns-else-not-waits-first
returns-else-not-waits-first c = ends c.loop-first.first c.args.waits.now c.loop-first.invariant c.loop-first-test.true c.if-not-waits-first.false

pub returns-after-loop-first : goal.returns-after-loop-first
returns-after-loop-first c = omega (arith, c.loop-first.invariant, c.loop-first-test.false, first_within c.args.waits.now)
