use Rattle.std.proofs.Common.{sym, ◌∙◌}
use Rattle.tg_audit.proofs.Means.{means}
use Rattle.tg_audit.proofs.Writing.{same_other, same_own, same_not, same_all}
use Rattle.tg_audit.proofs.puts.are_puts.Goals as goal

pub loop-mark-preserved-then-not-is_of : goal.loop-mark-preserved-then-not-is_of
loop-mark-preserved-then-not-is_of g c =
    same_other (means g.K.Kind g.K.Registry) g.K.Judged.same_ops c.loop-mark.left.now c.args.client c.args.tx c.args.trace.now c.loop-mark.mark-index c.mark-item.result _
    c.loop-mark-test.true c.mark-item.is (sym c.is_of.ensures ∙ c.if-not-is_of.true) c.loop-mark.invariant

pub returns-in_default : goal.returns-in_default
returns-in_default g c =
    same_not (means g.K.Kind g.K.Registry) g.K.Judged.same_ops c.loop-mark.left.now c.args.client c.args.tx c.args.trace.now c.loop-mark.mark-index c.mark-item.result _ c.after_put.result
    c.loop-mark-test.true c.mark-item.is (sym c.is_of.ensures ∙ c.if-not-is_of.false) c.after_put.ensures c.in_default.is c.loop-mark.invariant

pub loop-mark-preserved : goal.loop-mark-preserved
loop-mark-preserved g c =
    same_own (means g.K.Kind g.K.Registry) g.K.Judged.same_ops c.loop-mark.left.now c.args.client c.args.tx c.args.trace.now c.loop-mark.mark-index c.mark-item.result _ c.after_put.result c.in-Some.rest
    c.loop-mark-test.true c.mark-item.is (sym c.is_of.ensures ∙ c.if-not-is_of.false) c.after_put.ensures c.in-Some.is c.loop-mark.invariant

pub returns : goal.returns
returns g c =
    same_all (means g.K.Kind g.K.Registry) g.K.Judged.same_ops c.loop-mark.left.now c.args.client c.args.tx c.args.trace.now c.loop-mark.mark-index _ c.is_empty.result
    c.loop-mark-test.false c.is_empty.ensures c.loop-mark.invariant
