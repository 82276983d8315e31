use Rattle.std.proofs.Common.{◌≡◌, ◌++◌, replicate}
use Rattle.tg_codec.proofs.write.put_zeros.Given as goal

abbrev pub invariant-loop : goal.invariant-loop
invariant-loop l = l.out ≡ l.fn.out ++ replicate l.counter 0
