use Rattle.std.proofs.Common.{sym, ◌∙◌}
use Rattle.tg_audit.specs.Ruling as rule
use Rattle.tg_audit.proofs.Lists.{fault_here, fault_next, fault_none}
use Rattle.tg_audit.proofs.Means.{means}
use Rattle.tg_audit.proofs.run.Run.in_trace.Goals as goal

pub returns-in-Some-clause-first : goal.returns-in-Some-clause-first
returns-in-Some-clause-first g c =
    fault_here (rule.mark_fault (means g.K.Kind g.K.Registry) g.K.Judged.same_ops g.K.Judged.same_answers c.args.self.now.objects.now c.args.self.now.history.now c.args.self.now.trace.now)
    c.args.self.now.trace.now c.loop-place.place c.index-trace-place.result c.in-Some.clause _ c.loop-place-test.true c.index-trace-place.is (sym c.in_ok-clause.ensures ∙ c.in-Some.is) c.loop-place.invariant

pub loop-place-preserved : goal.loop-place-preserved
loop-place-preserved g c =
    fault_next (rule.mark_fault (means g.K.Kind g.K.Registry) g.K.Judged.same_ops g.K.Judged.same_answers c.args.self.now.objects.now c.args.self.now.history.now c.args.self.now.trace.now)
    c.args.self.now.trace.now c.loop-place.place c.index-trace-place.result _ c.loop-place-test.true c.index-trace-place.is (sym c.in_ok-clause.ensures ∙ c.in_default.is) c.loop-place.invariant

pub returns-clause-first : goal.returns-clause-first
returns-clause-first g c =
    fault_none (rule.mark_fault (means g.K.Kind g.K.Registry) g.K.Judged.same_ops g.K.Judged.same_answers c.args.self.now.objects.now c.args.self.now.history.now c.args.self.now.trace.now)
    c.args.self.now.trace.now c.loop-place.place _ c.loop-place-test.false c.loop-place.invariant
