use Rattle.std.proofs.Common.{◌≡◌, sym, ◌∙◌, arith, rules}
use Rattle.tg_set.proofs.Between.{between_is, between_none}
use Rattle.tg_set.proofs.set.numbers_between.Goals as goal

pub returns-then-high-low : goal.returns-then-high-low
returns-then-high-low c = c.new.ensures ∙ sym (between_none c.args.numbers.now.keys c.args.low c.args.high (omega (arith, c.if-high-low.true)))

pub returns : goal.returns
returns c =
    let found : c.in_ok-found.found.items ≡ c.range.result = search rules in
    c.from_vec.ensures ∙ found ∙ c.range.ensures.between tt ∙ between_is c.args.numbers.now.keys c.args.low c.args.high
