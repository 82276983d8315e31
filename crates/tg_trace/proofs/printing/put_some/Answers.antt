use Rattle.std.proofs.Common.{arith, ◌≤◌, length}
use Rattle.std.proofs.lemmas.Bool.Decides.{nat_tests}
use Rattle.tg_trace.proofs.Spaces.{writes_put}
use Rattle.tg_trace.proofs.printing.put_some.Goals as goal

pub returns : goal.returns
returns c =
    let le : length c.args.rest.now ≤ c.loop-oid.oid-index = grind (arith, nat_tests) in
    writes_put _ _ _ c.args.first.now c.args.rest.now c.loop-oid.oid-index le c.in_ok-put_write.ensures c.loop-oid.invariant
