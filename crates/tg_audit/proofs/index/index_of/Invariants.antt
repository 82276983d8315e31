use Rattle.tg_audit.specs.Places.{AreWindows}
use Rattle.tg_audit.proofs.index.index_of.Given as goal

abbrev pub invariant-loop-place : goal.invariant-loop-place
invariant-loop-place l = AreWindows l.keys l.place l.windows
