use Rattle.std.proofs.Common.{◌≡◌, take}
use Rattle.tg_world.specs.Kept.{KeepsWorld}
use Rattle.tg_any.specs.AllKinds.{all_kinds}
use Rattle.tg_replay.specs.Runs.{Worlds}
use Rattle.space_time.proofs.drawing.packets_of.Given as goal

abbrev pub invariant-loop-number : goal.invariant-loop-number
invariant-loop-number l = (w : Worlds) → KeepsWorld all_kinds l.world w → l.packets ≡ take l.number w.packets
