use Rattle.std.proofs.Common.{◌≡◌, ◌≤◌, ◌+◌, ◌-◌, length}
use Rattle.tg_io.specs.Faults.{StaysSure}
use Rattle.tg_lines.specs.Feeds.{TakesFeeds}
use Rattle.tg_lines.specs.Lines.{ahead}
use Rattle.tg_lines.specs.Openings.{Reached}
use Rattle.tg_node.proofs.header.read_own_header.Given as goal

abbrev pub invariant-loop-alloc : goal.invariant-loop-alloc
invariant-loop-alloc g l = record {
  reached : Reached (ahead l.fn.reader (g.S.Source.left l.fn.source)) (ahead l.reader (g.S.Source.left l.source)) l.lines;
  few : length l.lines ≤ 3;
  less : length l.reader + g.S.Source.room l.source + length l.lines ≤ length l.fn.reader + g.S.Source.room l.fn.source;
  feeds : TakesFeeds (length l.lines) (ahead l.fn.reader (g.S.Source.left l.fn.source)) (ahead l.reader (g.S.Source.left l.source));
  still : g.S.Source.faults l.source ≡ g.S.Source.faults l.fn.source;
  later : g.S.Source.faults l.fn.source ≤ g.S.Source.faults l.source;
  sure : StaysSure (g.S.Source.sure l.fn.source) (g.S.Source.sure l.source) (g.S.Source.faults l.fn.source) (g.S.Source.faults l.source);
}

abbrev pub decreases-loop-alloc : goal.decreases-loop-alloc
decreases-loop-alloc g l = 3 - length l.lines
