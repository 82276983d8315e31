use Rattle.std.proofs.Common.{◌≡◌, drop}
use Rattle.tg_audit.specs.Judging.{latest}
use Rattle.tg_audit.proofs.Means.{means}
use Rattle.tg_audit.proofs.versions.latest.Given as goal

abbrev pub invariant-loop-done : goal.invariant-loop-done
invariant-loop-done g l =
    latest (means g.K.Kind g.K.Registry) l.oid l.part l.before l.version (drop l.done-index l.history)
    ≡ latest (means g.K.Kind g.K.Registry) l.oid l.part l.before l.fn.version l.history
