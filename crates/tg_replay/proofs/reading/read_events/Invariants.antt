use Rattle.std.proofs.Common.{◌≡◌, ◌<◌, ◌≤◌, ◌+◌, ◌^◌, length}
use Rattle.tg_io.specs.Faults.{StaysSure}
use Rattle.tg_lines.specs.Lines.{ahead}
use Rattle.tg_world.specs.Kept.{IsWorld}
use Rattle.tg_any.specs.AllKinds.{all_kinds}
use Rattle.tg_replay.specs.Stages.{StillReads}
use Rattle.tg_replay.proofs.reading.read_events.Given as goal

abbrev pub invariant-loop-run : goal.invariant-loop-run
invariant-loop-run g l = record {
  reads : StillReads (ahead l.fn.reader (g.S.Source.left l.fn.source)) (ahead l.reader (g.S.Source.left l.source)) l.fn.run l.run;
  kept : IsWorld all_kinds l.run.world;
  room : l.run.world.event + 3 + (length l.reader + g.S.Source.room l.source) < 2 ^ 64;
  still : g.S.Source.faults l.source ≡ g.S.Source.faults l.fn.source;
  later : g.S.Source.faults l.fn.source ≤ g.S.Source.faults l.source;
  sure : StaysSure (g.S.Source.sure l.fn.source) (g.S.Source.sure l.source) (g.S.Source.faults l.fn.source) (g.S.Source.faults l.source);
}

abbrev pub decreases-loop-run : goal.decreases-loop-run
decreases-loop-run g l = length l.reader + g.S.Source.room l.source
