use Rattle.std.proofs.Common.{◌≡◌, ◌++◌, take}
use Rattle.std.specs.List.{flat_map}
use Rattle.tg_trace.specs.Lines.{spaced_object}
use Rattle.tg_trace.proofs.printing.put_oids.Given as goal

abbrev pub invariant-loop-oid : goal.invariant-loop-oid
invariant-loop-oid l = l.out ≡ l.initial.out ++ flat_map spaced_object (take l.oid-index l.oids)
