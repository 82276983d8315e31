use Rattle.std.proofs.Common.{◌≡◌, ◌*◌, ◌++◌}
use Rattle.tg_gen.specs.Draws.{drawn}
use Rattle.tg_gen.specs.Loads.{rounds, text}
use Rattle.tg_gen.proofs.load.put_rounds.Given as goal

abbrev pub invariant-loop-i : goal.invariant-loop-i
invariant-loop-i l = record {
  numbers : l.numbers ≡ drawn l.start (l.i * 3);
  so_far : l.out ≡ l.initial.out ++ text (rounds l.start l.count l.i);
}
