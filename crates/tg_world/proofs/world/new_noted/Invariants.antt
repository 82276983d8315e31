use Rattle.std.proofs.Common.{◌≡◌, replicate}
use Rattle.tg_world.proofs.world.new_noted.Given as goal

abbrev pub invariant-loop-num : goal.invariant-loop-num
invariant-loop-num l = l.noted.items ≡ replicate l._num (record { next = 1; epoch = 1; upto = 0 })
