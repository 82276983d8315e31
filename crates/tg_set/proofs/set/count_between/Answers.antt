use Rattle.std.proofs.Common.{◌≡◌, ap, sym, ◌∙◌, length, arith, rules}
use Rattle.tg_set.proofs.Between.{between_is, between_none}
use Rattle.tg_set.proofs.set.count_between.Goals as goal

pub returns-then-high-low : goal.returns-then-high-low
returns-then-high-low c = sym (ap length (between_none c.args.numbers.now.keys c.args.low c.args.high (omega (arith, c.if-high-low.true))))

pub returns : goal.returns
returns c =
    let counted : c.count.result ≡ length c.range.result = search rules in
    counted ∙ ap length (c.range.ensures.between tt ∙ between_is c.args.numbers.now.keys c.args.low c.args.high)
