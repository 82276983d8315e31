use Rattle.std.proofs.Common.{◌≡◌, ℕ, ◌<◌, drop}
use Rattle.tg_audit.specs.Judging.{reach, bound_by}
use Rattle.tg_audit.specs.Runs.{bound_at}
use Rattle.tg_audit.proofs.Means.{means}
use Rattle.tg_audit.proofs.points.bounds.Given as goal

abbrev pub invariant-loop-place : goal.invariant-loop-place
invariant-loop-place g l =
    (k x : ℕ) → x < 4294967296 →
    bound_by (means g.K.Kind g.K.Registry) (reach (means g.K.Kind g.K.Registry) l.trace) k x l.reach (bound_at (means g.K.Kind g.K.Registry) l.bounds k x) (drop l.place l.trace)
    ≡ bound_by (means g.K.Kind g.K.Registry) (reach (means g.K.Kind g.K.Registry) l.trace) k x 0 0 l.trace
