use Rattle.std.proofs.Common.{◌≡◌}
use Rattle.tg_picture.specs.Courses.{courses}
use Rattle.tg_picture.proofs.ways.courses.Given as goal

abbrev pub invariant-loop-at : goal.invariant-loop-at
invariant-loop-at l = l.found ≡ courses l.packets l.steps l.from l.at
