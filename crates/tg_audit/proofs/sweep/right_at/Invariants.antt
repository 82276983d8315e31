use Rattle.tg_audit.specs.Runs.{AreRight}
use Rattle.tg_audit.specs.Sweeps.{IsSweep}
use Rattle.tg_audit.proofs.Means.{means}
use Rattle.tg_audit.proofs.sweep.right_at.Given as goal

abbrev pub invariant-loop-before : goal.invariant-loop-before
invariant-loop-before g l =
    IsSweep (means g.K.Kind g.K.Registry) l.objects l.history l.oid l.state l.next
    × AreRight (means g.K.Kind g.K.Registry) g.K.Judged.same_answers l.objects l.history l.trace l.right
