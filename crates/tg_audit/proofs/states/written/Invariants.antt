use Rattle.std.proofs.Common.{◌≡◌, drop}
use Rattle.tg_audit.specs.Judging.{written}
use Rattle.tg_audit.proofs.Means.{means}
use Rattle.tg_audit.proofs.states.written.Given as goal

abbrev pub invariant-loop-one : goal.invariant-loop-one
invariant-loop-one g l = written (means g.K.Kind g.K.Registry) l.oid l.state (drop l.one-index l.writes) ≡ written (means g.K.Kind g.K.Registry) l.oid l.fn.state l.writes
