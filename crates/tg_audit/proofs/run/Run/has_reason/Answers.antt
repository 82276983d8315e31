use Rattle.std.proofs.Common.{ap, sym, ◌∙◌}
use Rattle.std.specs.Prelude.{filter}
use Rattle.tg_audit.specs.Judging.{is_of, meets}
use Rattle.tg_audit.specs.Ruling as rule
use Rattle.tg_audit.proofs.Kept.{take_whole, meets_alike}
use Rattle.tg_audit.proofs.Lists.{any_here, any_next, any_none}
use Rattle.tg_audit.proofs.Means.{means}
use Rattle.tg_audit.proofs.run.Run.has_reason.Goals as goal

pub loop-mark-init : goal.loop-mark-init
loop-mark-init g c =
    meets_alike (means g.K.Kind g.K.Registry) c.args.client c.args.tx
    (rule.explains (means g.K.Kind g.K.Registry) g.K.Judged.same_ops g.K.Judged.same_answers c.args.self.now.objects.now c.args.self.now.history.now c.args.self.now.trace.now c.args.at c.args.oid c.args.part.now c.args.seen c.args.now)
    c.marks-marks.result.now c.args.self.now.trace.now (c.marks-marks.ensures ∙ ap (filter (is_of (means g.K.Kind g.K.Registry) c.args.client c.args.tx)) (take_whole c.args.self.now.trace.now))

pub returns-then-is_explained : goal.returns-then-is_explained
returns-then-is_explained g c =
    any_here (meets (means g.K.Kind g.K.Registry) c.args.client c.args.tx (rule.explains (means g.K.Kind g.K.Registry) g.K.Judged.same_ops g.K.Judged.same_answers c.args.self.now.objects.now c.args.self.now.history.now c.args.self.now.trace.now c.args.at c.args.oid c.args.part.now c.args.seen c.args.now))
    c.marks-marks.result.now c.loop-mark.mark-index c.mark-item.result _ c.loop-mark-test.true c.mark-item.is (sym c.is_explained.ensures ∙ c.if-is_explained.true) c.loop-mark.invariant

pub loop-mark-preserved : goal.loop-mark-preserved
loop-mark-preserved g c =
    any_next (meets (means g.K.Kind g.K.Registry) c.args.client c.args.tx (rule.explains (means g.K.Kind g.K.Registry) g.K.Judged.same_ops g.K.Judged.same_answers c.args.self.now.objects.now c.args.self.now.history.now c.args.self.now.trace.now c.args.at c.args.oid c.args.part.now c.args.seen c.args.now))
    c.marks-marks.result.now c.loop-mark.mark-index c.mark-item.result _ c.loop-mark-test.true c.mark-item.is (sym c.is_explained.ensures ∙ c.if-is_explained.false) c.loop-mark.invariant

pub returns : goal.returns
returns g c =
    any_none (meets (means g.K.Kind g.K.Registry) c.args.client c.args.tx (rule.explains (means g.K.Kind g.K.Registry) g.K.Judged.same_ops g.K.Judged.same_answers c.args.self.now.objects.now c.args.self.now.history.now c.args.self.now.trace.now c.args.at c.args.oid c.args.part.now c.args.seen c.args.now))
    c.marks-marks.result.now c.loop-mark.mark-index _ c.loop-mark-test.false c.loop-mark.invariant
