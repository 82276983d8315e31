use Rattle.std.proofs.Common.{◌≡◌, ◌++◌, map, drop}
use Rattle.tg_audit.specs.Runs.{mark_key}
use Rattle.tg_audit.proofs.Means.{means}
use Rattle.tg_audit.proofs.tables.mark_keys.Given as goal

abbrev pub invariant-loop-mark : goal.invariant-loop-mark
invariant-loop-mark g l = l.keys ++ map (mark_key (means g.K.Kind g.K.Registry)) (drop l.mark-index l.trace) ≡ map (mark_key (means g.K.Kind g.K.Registry)) l.trace
