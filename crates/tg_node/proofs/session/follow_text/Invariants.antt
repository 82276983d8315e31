use Rattle.std.proofs.Common.{◌≡◌, ◌≤◌, ◌+◌, ◌-◌, ◌<◌, ◌^◌, length}
use Rattle.tg_io.specs.Faults.{StaysSure}
use Rattle.tg_lines.specs.Feeds.{TakesFeeds}
use Rattle.tg_lines.specs.Lines.{ahead}
use Rattle.tg_node.specs.Steps.{IsSound}
use Rattle.tg_node.specs.Stages.{StillFollows, seen}
use Rattle.tg_node.proofs.session.follow_text.Given as goal

abbrev pub invariant-loop-line : goal.invariant-loop-line
invariant-loop-line g l = record {
  follows : StillFollows (ahead l.fn.reader (g.S.Source.left l.fn.source)) (ahead l.reader (g.S.Source.left l.source)) l.fn.run (seen (g.L.Link.sent l.fn.link) (g.L.Link.handed l.fn.link) (g.L.Link.acts l.fn.link) (g.K.Sink.written l.fn.sink)) l.run (seen (g.L.Link.sent l.link) (g.L.Link.handed l.link) (g.L.Link.acts l.link) (g.K.Sink.written l.sink));
  sound : IsSound l.run.node;
  lines : l.fn.run.lines ≤ l.run.lines;
  feeds : TakesFeeds (l.run.lines - l.fn.run.lines) (ahead l.fn.reader (g.S.Source.left l.fn.source)) (ahead l.reader (g.S.Source.left l.source));
  read_still : g.S.Source.faults l.source ≡ g.S.Source.faults l.fn.source;
  room : l.run.lines + 3 + (length l.reader + g.S.Source.room l.source) < 2 ^ 64;
  read_later : g.S.Source.faults l.fn.source ≤ g.S.Source.faults l.source;
  write_still : g.K.Sink.faults l.sink ≡ g.K.Sink.faults l.fn.sink;
  link_still : g.L.Link.faults l.link ≡ g.L.Link.faults l.fn.link;
  source : StaysSure (g.S.Source.sure l.fn.source) (g.S.Source.sure l.source) (g.S.Source.faults l.fn.source) (g.S.Source.faults l.source);
  sink : StaysSure (g.K.Sink.sure l.fn.sink) (g.K.Sink.sure l.sink) (g.K.Sink.faults l.fn.sink) (g.K.Sink.faults l.sink);
  link : StaysSure (g.L.Link.sure l.fn.link) (g.L.Link.sure l.link) (g.L.Link.faults l.fn.link) (g.L.Link.faults l.link);
}

abbrev pub decreases-loop-line : goal.decreases-loop-line
decreases-loop-line g l = length l.reader + g.S.Source.room l.source
