use Rattle.std.proofs.Common.{◌≡◌, ◌<◌, ◌≤◌, ◌+◌, ◌^◌, length}
use Rattle.tg_io.specs.Faults.{StaysSure}
use Rattle.tg_lines.specs.Lines.{ahead}
use Rattle.tg_live.specs.Kept.{IsSound}
use Rattle.tg_live.specs.Stages.{StillReads}
use Rattle.tg_live.specs.Sends.{carried}
use Rattle.tg_live.proofs.running.run_lines.Given as goal

abbrev pub invariant-loop-running : goal.invariant-loop-running
invariant-loop-running g l = record {
  reads : StillReads (ahead l.fn.reader (g.S.Source.left l.fn.source)) (ahead l.reader (g.S.Source.left l.source)) l.fn.running l.running (g.L.Link.handed l.fn.link) (g.L.Link.handed l.link) (carried (g.L.Link.sent l.fn.link) (g.L.Link.acts l.fn.link)) (carried (g.L.Link.sent l.link) (g.L.Link.acts l.link));
  kept : IsSound l.running.live.world l.running.live.recording;
  room : l.running.lines + 3 + (length l.reader + g.S.Source.room l.source) < 2 ^ 64;
  still : g.S.Source.faults l.source ≡ g.S.Source.faults l.fn.source;
  later : g.S.Source.faults l.fn.source ≤ g.S.Source.faults l.source;
  sure : StaysSure (g.S.Source.sure l.fn.source) (g.S.Source.sure l.source) (g.S.Source.faults l.fn.source) (g.S.Source.faults l.source);
  link_still : g.L.Link.faults l.link ≡ g.L.Link.faults l.fn.link;
  link_later : g.L.Link.faults l.fn.link ≤ g.L.Link.faults l.link;
  link_sure : StaysSure (g.L.Link.sure l.fn.link) (g.L.Link.sure l.link) (g.L.Link.faults l.fn.link) (g.L.Link.faults l.link);
}

abbrev pub decreases-loop-running : goal.decreases-loop-running
decreases-loop-running g l = length l.reader + g.S.Source.room l.source
