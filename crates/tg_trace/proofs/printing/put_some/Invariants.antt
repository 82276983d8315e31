use Rattle.std.proofs.Common.{◌≡◌, ◌++◌, take}
use Rattle.std.specs.List.{flat_map}
use Rattle.tg_trace.proofs.Spaces.{behind}
use Rattle.tg_trace.proofs.printing.put_some.Given as goal

abbrev pub invariant-loop-oid : goal.invariant-loop-oid
invariant-loop-oid l = l.out ≡ l.initial.out ++ flat_map behind (take l.oid-index l.rest)
