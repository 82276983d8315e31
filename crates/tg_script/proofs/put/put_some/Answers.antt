use Rattle.std.proofs.Common.{arith, ◌≤◌, length}
use Rattle.std.proofs.lemmas.Bool.Decides.{nat_tests}
use Rattle.tg_script.proofs.Spaces.{some_written}
use Rattle.tg_script.proofs.put.put_some.Goals as goal

pub returns : goal.returns
returns g c =
    let le : length c.args.rest.now ≤ c.loop-item.item-index = grind (arith, nat_tests) in
    some_written c.args.byte g.P.Part.spelled _ _ _ c.args.first.now c.args.rest.now c.loop-item.item-index le c.in_ok-put.ensures c.loop-item.invariant
