use Rattle.std.proofs.Common.{arith, ◌≤◌, length}
use Rattle.std.proofs.lemmas.Bool.Decides.{nat_tests}
use Rattle.tg_any.proofs.Lists.{items_put}
use Rattle.tg_any.proofs.phrase.put_items.Goals as goal

pub returns : goal.returns
returns g c =
    let le : length c.args.rest.now ≤ c.loop-item.item-index = grind (arith, nat_tests) in
    items_put g.A.Field.word.spell _ _ _ c.args.first.now c.args.rest.now c.loop-item.item-index le c.in_ok-put.ensures c.loop-item.invariant
