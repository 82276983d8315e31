use Rattle.std.proofs.Common.{◌≡◌, length, ◌-◌, ◌≤◌, take}
use Rattle.tg_io.specs.Bytes.{Takes}
use Rattle.tg_io.specs.Faults.{StaysSure}
use Rattle.tg_io.proofs.sink.write_all.Given as goal

abbrev pub invariant-loop-taken : goal.invariant-loop-taken
invariant-loop-taken g l =
    (l.taken ≤ length l.piece)
    × Takes (g.K.Sink.written l.initial.sink) (take l.taken l.piece) (g.K.Sink.written l.sink)
    × (g.K.Sink.faults l.sink ≡ g.K.Sink.faults l.initial.sink)
    × StaysSure (g.K.Sink.sure l.initial.sink) (g.K.Sink.sure l.sink) (g.K.Sink.faults l.initial.sink) (g.K.Sink.faults l.sink)

abbrev pub decreases-loop-taken : goal.decreases-loop-taken
decreases-loop-taken g l = length l.piece - l.taken
