use Rattle.std.proofs.Common.{◌≡◌, ◌++◌, map, drop}
use Rattle.tg_audit.specs.Runs.{entry_key}
use Rattle.tg_audit.proofs.Means.{means}
use Rattle.tg_audit.proofs.tables.entry_keys.Given as goal

abbrev pub invariant-loop-done : goal.invariant-loop-done
invariant-loop-done g l = l.keys ++ map (entry_key (means g.K.Kind g.K.Registry)) (drop l.done-index l.history) ≡ map (entry_key (means g.K.Kind g.K.Registry)) l.history
