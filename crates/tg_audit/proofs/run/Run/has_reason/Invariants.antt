use Rattle.std.proofs.Common.{◌≡◌, drop}
use Rattle.std.specs.List.{list_any}
use Rattle.tg_audit.specs.Judging.{meets}
use Rattle.tg_audit.specs.Ruling as rule
use Rattle.tg_audit.proofs.Means.{means}
use Rattle.tg_audit.proofs.run.Run.has_reason.Given as goal

abbrev pub invariant-loop-mark : goal.invariant-loop-mark
invariant-loop-mark g l =
    list_any (meets (means g.K.Kind g.K.Registry) l.client l.tx (rule.explains (means g.K.Kind g.K.Registry) g.K.Judged.same_ops g.K.Judged.same_answers l.self.objects.now l.self.history.now l.self.trace.now l.at l.oid l.part l.seen l.now)) (drop l.mark-index l.marks)
    ≡ list_any (meets (means g.K.Kind g.K.Registry) l.client l.tx (rule.explains (means g.K.Kind g.K.Registry) g.K.Judged.same_ops g.K.Judged.same_answers l.self.objects.now l.self.history.now l.self.trace.now l.at l.oid l.part l.seen l.now)) l.self.trace.now
