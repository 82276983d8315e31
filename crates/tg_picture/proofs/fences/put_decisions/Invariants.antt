use Rattle.std.proofs.Common.{◌≡◌, ◌++◌}
use Rattle.tg_picture.specs.Bands.{decisions}
use Rattle.tg_picture.proofs.fences.put_decisions.Given as goal

abbrev pub invariant-loop-at : goal.invariant-loop-at
invariant-loop-at l = l.found ≡ l.initial.found ++ decisions l.epochs.first.now l.epochs.layouts l.epochs.packets.now l.steps l.from l.at
