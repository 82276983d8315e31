use Rattle.std.proofs.Common.{◌≡◌, ◌++◌, map, drop}
use Rattle.tg_audit.specs.Runs.{stamp_of}
use Rattle.tg_audit.proofs.Means.{means}
use Rattle.tg_audit.proofs.tables.stamps.Given as goal

abbrev pub invariant-loop-done : goal.invariant-loop-done
invariant-loop-done g l = l.stamps ++ map (stamp_of (means g.K.Kind g.K.Registry)) (drop l.done-index l.history) ≡ map (stamp_of (means g.K.Kind g.K.Registry)) l.history
