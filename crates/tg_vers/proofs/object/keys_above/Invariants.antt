use Rattle.std.proofs.Common.{◌≡◌, ℕ, ◌++◌}
use Rattle.std.specs.Prelude.{nat_lt, filter}
use Rattle.tg_base.specs.declared.marks.Part.{Part}
use Rattle.tg_vers.proofs.object.keys_above.Given as goal

abbrev pub invariant-loop-part : goal.invariant-loop-part
invariant-loop-part l = l.above ++ filter (λ (x : Part × ℕ). nat_lt l.whole x.1) l.part-iterator ≡ filter (λ (x : Part × ℕ). nat_lt l.whole x.1) l.keys.entries
