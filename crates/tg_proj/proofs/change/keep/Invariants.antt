use Rattle.tg_proj.proofs.Chains.{KeptSoFar}
use Rattle.tg_proj.proofs.change.keep.Given as goal

abbrev pub invariant-loop-unit : goal.invariant-loop-unit
invariant-loop-unit l = KeptSoFar l.drop l.unit-items l.unit-index l.units.items
