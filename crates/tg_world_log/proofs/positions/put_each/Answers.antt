use Rattle.std.proofs.Common.{arith}
use Rattle.tg_world_log.proofs.Sets.{keys_next}
use Rattle.tg_world_log.proofs.positions.put_each.Goals as goal

pub loop-at-preserved : goal.loop-at-preserved
loop-at-preserved c =
    let within = c.loop-at.invariant.within in
    record {
      within = omega (arith, within);
      found = keys_next c.args.positions.now c.loop-at.found.keys c.args.found.now.keys c.insert.new.self.keys c.loop-at.at c.loop-at-test.true within c.loop-at.invariant.found c.in_ok-insert.ensures.keys;
    }
