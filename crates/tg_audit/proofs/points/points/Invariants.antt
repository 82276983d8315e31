use Rattle.std.proofs.Common.{◌≡◌, ◌++◌, map, drop}
use Rattle.tg_audit.specs.Judging.{reach}
use Rattle.tg_audit.proofs.Means.{means}
use Rattle.tg_audit.proofs.points.points.Given as goal

abbrev pub invariant-loop-mark : goal.invariant-loop-mark
invariant-loop-mark g l =
    l.points ++ map (reach (means g.K.Kind g.K.Registry) l.trace) (drop l.mark-index l.trace) ≡ map (reach (means g.K.Kind g.K.Registry) l.trace) l.trace
