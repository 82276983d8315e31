use Rattle.std.proofs.Common.{◌≡◌, take, drop}
use Rattle.tg_audit.specs.Judging.{first_fault}
use Rattle.tg_audit.specs.Ruling as rule
use Rattle.tg_audit.proofs.Means.{means}
use Rattle.tg_audit.proofs.run.Run.in_trace.Given as goal

abbrev pub invariant-loop-place : goal.invariant-loop-place
invariant-loop-place g l =
    first_fault (rule.mark_fault (means g.K.Kind g.K.Registry) g.K.Judged.same_ops g.K.Judged.same_answers l.self.objects.now l.self.history.now l.self.trace.now) l.place (take l.place l.trace) (drop l.place l.trace)
    ≡ rule.in_trace (means g.K.Kind g.K.Registry) g.K.Judged.same_ops g.K.Judged.same_answers l.self.objects.now l.self.history.now l.self.trace.now
