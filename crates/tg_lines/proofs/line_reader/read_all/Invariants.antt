use Rattle.std.proofs.Common.{◌≡◌, ◌≤◌}
use Rattle.tg_io.specs.Faults.{StaysSure}
use Rattle.tg_io.specs.Bytes.{Gives}
use Rattle.tg_lines.proofs.line_reader.read_all.Given as goal

abbrev pub invariant-loop-text : goal.invariant-loop-text
invariant-loop-text g l = record {
  given : Gives (g.S.Source.left l.fn.source) l.text (g.S.Source.left l.source);
  still : g.S.Source.faults l.source ≡ g.S.Source.faults l.fn.source;
  later : g.S.Source.faults l.fn.source ≤ g.S.Source.faults l.source;
  sure : StaysSure (g.S.Source.sure l.fn.source) (g.S.Source.sure l.source) (g.S.Source.faults l.fn.source) (g.S.Source.faults l.source);
}

abbrev pub decreases-loop-text : goal.decreases-loop-text
decreases-loop-text g l = g.S.Source.room l.source
