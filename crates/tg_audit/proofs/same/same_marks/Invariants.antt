use Rattle.std.proofs.Common.{◌≡◌, drop}
use Rattle.std.specs.Cmp.Lexicographic.{pointwise}
use Rattle.tg_audit.specs.Same.{same_mark}
use Rattle.tg_audit.proofs.same.same_marks.Given as goal

abbrev pub invariant-loop-place : goal.invariant-loop-place
invariant-loop-place l = pointwise same_mark (drop l.place l.one) (drop l.place l.other) ≡ pointwise same_mark l.one l.other
