use Rattle.std.proofs.Common.{◌<◌, ◌≤◌, ◌+◌, ◌^◌, length}
use Rattle.tg_io.specs.Faults.{StaysSure}
use Rattle.tg_lines.specs.Lines.{ahead}
use Rattle.tg_replay.specs.Stages.{StillReads}
use Rattle.space_time.specs.Records.{IsRecorded}
use Rattle.space_time.proofs.reading.record_events.Given as goal

abbrev pub invariant-loop-line : goal.invariant-loop-line
invariant-loop-line g l = record {
  reads : StillReads (ahead l.fn.reader (g.S.Source.left l.fn.source)) (ahead l.reader (g.S.Source.left l.source)) l.fn.recording.run l.recording.run;
  kept : IsRecorded l.recording;
  room : l.recording.run.world.event + 3 + (length l.reader + g.S.Source.room l.source) < 2 ^ 64;
  later : g.S.Source.faults l.fn.source ≤ g.S.Source.faults l.source;
  sure : StaysSure (g.S.Source.sure l.fn.source) (g.S.Source.sure l.source) (g.S.Source.faults l.fn.source) (g.S.Source.faults l.source);
}

abbrev pub decreases-loop-line : goal.decreases-loop-line
decreases-loop-line g l = length l.reader + g.S.Source.room l.source
