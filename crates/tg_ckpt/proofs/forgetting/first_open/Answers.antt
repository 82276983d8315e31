use Rattle.std.proofs.Common.{◌+◌, drop, sym, ◌∙◌}
use Rattle.tg_play.proofs.Splitting.{drop_item, drop_all}
use Rattle.tg_ckpt.proofs.Opening.{found_open, passed_open, none_open}
use Rattle.tg_ckpt.proofs.forgetting.first_open.Goals as goal

pub returns-then-is_open : goal.returns-then-is_open
returns-then-is_open c = λ es is.
    found_open es c.args.decisions.now.entries c.args.oid c.args.mark is c.args.entries.now (drop c.loop-placed.placed-index c.args.entries.now) (drop (c.loop-placed.placed-index + 1) c.args.entries.now) c.placed-item.result
    (drop_item c.args.entries.now c.loop-placed.placed-index c.placed-item.result c.loop-placed-test.true c.placed-item.is) (sym c.is_open.ensures ∙ c.if-is_open.true) (c.loop-placed.invariant es is)

pub loop-placed-preserved : goal.loop-placed-preserved
loop-placed-preserved c = λ es is.
    passed_open es c.args.decisions.now.entries c.args.oid c.args.mark is c.args.entries.now (drop c.loop-placed.placed-index c.args.entries.now) (drop (c.loop-placed.placed-index + 1) c.args.entries.now) c.placed-item.result
    (drop_item c.args.entries.now c.loop-placed.placed-index c.placed-item.result c.loop-placed-test.true c.placed-item.is) (sym c.is_open.ensures ∙ c.if-is_open.false) (c.loop-placed.invariant es is)

pub returns : goal.returns
returns c = λ es is.
    none_open es c.args.decisions.now.entries c.args.oid c.args.mark is c.args.entries.now (drop c.loop-placed.placed-index c.args.entries.now)
    (drop_all c.args.entries.now c.loop-placed.placed-index c.loop-placed-test.false) (c.loop-placed.invariant es is)
