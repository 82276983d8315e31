use Rattle.std.proofs.Common.{rules, arith, ◌≡◌, ◌<◌, None, sym, ◌∙◌, length}
use Rattle.std.proofs.lemmas.Bool.Decides.{nat_tests}
use Rattle.tg_any.proofs.Lists.{items_stuck_at}
use Rattle.tg_any.proofs.phrase.items.Goals as goal

pub returns-in_default : goal.returns-in_default
returns-in_default g c =
    let none : c.in_ok-item.field-0 ≡ None = search rules in
    let lt : c.loop-next.next-index < length c.args.rest.now = grind (arith, nat_tests) in
    sym (items_stuck_at g.A.Field.word _ c.loop-next.items c.loop-next.word.now c.args.rest.now c.loop-next.next-index lt c.loop-next.invariant.1 (sym c.in_ok-item.ensures ∙ none))
