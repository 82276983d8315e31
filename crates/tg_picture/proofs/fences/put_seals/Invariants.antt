use Rattle.std.proofs.Common.{◌≡◌, ◌++◌}
use Rattle.tg_picture.specs.Bands.{seals}
use Rattle.tg_picture.proofs.fences.put_seals.Given as goal

abbrev pub invariant-loop-number : goal.invariant-loop-number
invariant-loop-number l = l.found ≡ l.initial.found ++ seals l.packets l.steps l.from l.upto l.number
