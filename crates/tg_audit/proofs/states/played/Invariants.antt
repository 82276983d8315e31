use Rattle.std.proofs.Common.{◌≡◌, drop}
use Rattle.tg_audit.specs.Judging.{played}
use Rattle.tg_audit.proofs.Means.{means}
use Rattle.tg_audit.proofs.states.played.Given as goal

abbrev pub invariant-loop-done : goal.invariant-loop-done
invariant-loop-done g l = played (means g.K.Kind g.K.Registry) l.oid l.before l.state (drop l.done-index l.history) ≡ played (means g.K.Kind g.K.Registry) l.oid l.before l.fn.state l.history
