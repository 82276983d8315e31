use Rattle.std.proofs.Common.{◌+◌, drop, sym, ◌∙◌}
use Rattle.tg_play.proofs.Splitting.{drop_item, drop_all}
use Rattle.tg_rescue.proofs.Finding.{found_record, passed_record, no_record}
use Rattle.tg_rescue.proofs.records.commit_in.Goals as goal

pub returns-then-is_record_at : goal.returns-then-is_record_at
returns-then-is_record_at c =
    found_record c.args.entries.now (drop c.loop-placed.placed-index c.args.entries.now) (drop (c.loop-placed.placed-index + 1) c.args.entries.now) c.placed-item.result c.args.at
    (drop_item c.args.entries.now c.loop-placed.placed-index c.placed-item.result c.loop-placed-test.true c.placed-item.is) (sym c.is_record_at.ensures ∙ c.if-is_record_at.true) c.loop-placed.invariant

pub loop-placed-preserved : goal.loop-placed-preserved
loop-placed-preserved c =
    passed_record c.args.entries.now (drop c.loop-placed.placed-index c.args.entries.now) (drop (c.loop-placed.placed-index + 1) c.args.entries.now) c.placed-item.result c.args.at
    (drop_item c.args.entries.now c.loop-placed.placed-index c.placed-item.result c.loop-placed-test.true c.placed-item.is) (sym c.is_record_at.ensures ∙ c.if-is_record_at.false) c.loop-placed.invariant

pub returns : goal.returns
returns c =
    no_record c.args.entries.now (drop c.loop-placed.placed-index c.args.entries.now) c.args.at
    (drop_all c.args.entries.now c.loop-placed.placed-index c.loop-placed-test.false) c.loop-placed.invariant
