use Rattle.std.proofs.Common.{◌≡◌, drop, take}
use Rattle.std.specs.List.{list_all}
use Rattle.tg_audit.specs.Judging.{passes, holds_still}
use Rattle.tg_audit.proofs.Means.{means}
use Rattle.tg_audit.proofs.run.Run.all_hold.Given as goal

abbrev pub invariant-loop-place : goal.invariant-loop-place
invariant-loop-place g l =
    list_all (passes (means g.K.Kind g.K.Registry) l.client l.tx (holds_still (means g.K.Kind g.K.Registry) g.K.Judged.same_answers l.self.objects.now l.self.history.now l.at)) (drop l.place l.trace)
    ≡ list_all (passes (means g.K.Kind g.K.Registry) l.client l.tx (holds_still (means g.K.Kind g.K.Registry) g.K.Judged.same_answers l.self.objects.now l.self.history.now l.at)) l.self.trace.now
