use Rattle.std.proofs.Common.{◌+◌, drop, Bool, Option, sym, ap, ◌∙◌}
use Rattle.tg_protocol.specs.Words.{or_else}
use Rattle.tg_protocol.specs.Views.{decision_in}
use Rattle.tg_play.proofs.Splitting.{drop_item, drop_all}
use Rattle.tg_play.proofs.Deciding.{decision_step, decision_none}
use Rattle.tg_play.proofs.decisions.decision_among.Goals as goal

pub returns-in-Some : goal.returns-in-Some
returns-in-Some c =
    ap (λ (d : Option Bool). or_else d (decision_in (drop (c.loop-entry.entry-index + 1) c.args.entries.now) c.args.pos)) (sym c.in-Some.is)
    ∙ sym
    (decision_step c.loop-entry-item.result (drop (c.loop-entry.entry-index + 1) c.args.entries.now) (drop c.loop-entry.entry-index c.args.entries.now) c.args.pos c.decided_by.result
    (drop_item c.args.entries.now c.loop-entry.entry-index c.loop-entry-item.result c.loop-entry-test.true c.loop-entry-item.is) c.decided_by.ensures)
    ∙ c.loop-entry.invariant

pub loop-entry-preserved : goal.loop-entry-preserved
loop-entry-preserved c =
    ap (λ (d : Option Bool). or_else d (decision_in (drop (c.loop-entry.entry-index + 1) c.args.entries.now) c.args.pos)) (sym c.in_default.is)
    ∙ sym
    (decision_step c.loop-entry-item.result (drop (c.loop-entry.entry-index + 1) c.args.entries.now) (drop c.loop-entry.entry-index c.args.entries.now) c.args.pos c.decided_by.result
    (drop_item c.args.entries.now c.loop-entry.entry-index c.loop-entry-item.result c.loop-entry-test.true c.loop-entry-item.is) c.decided_by.ensures)
    ∙ c.loop-entry.invariant

pub returns : goal.returns
returns c = sym (decision_none _ c.args.pos (drop_all c.args.entries.now c.loop-entry.entry-index c.loop-entry-test.false)) ∙ c.loop-entry.invariant
