use Rattle.std.proofs.Common.{◌≡◌, ◌≤◌, ◌+◌, length}
use Rattle.tg_io.specs.Faults.{StaysSure}
use Rattle.tg_lines.specs.Lines.{Begun, IsUnbroken, ahead}
use Rattle.tg_lines.proofs.Reading.{Reading}
use Rattle.tg_lines.proofs.line_reader.LineReader.next.Given as goal

abbrev pub invariant-loop-line : goal.invariant-loop-line
invariant-loop-line g l = record {
  begun : Begun (ahead l.fn.self (g.S.Source.left l.fn.source)) (ahead l.self (g.S.Source.left l.source)) l.line;
  count : length l.self + length l.line + g.S.Source.room l.source ≤ length l.fn.self + g.S.Source.room l.fn.source;
  still : g.S.Source.faults l.source ≡ g.S.Source.faults l.fn.source;
  sure : StaysSure (g.S.Source.sure l.fn.source) (g.S.Source.sure l.source) (g.S.Source.faults l.fn.source) (g.S.Source.faults l.source);
  reading : Reading l.fn.self l.self l.line (g.S.Source.pieces l.fn.source) (g.S.Source.pieces l.source);
  hand : (IsUnbroken l.fn.self → ⊥) → (l.source ≡ l.fn.source) × (l.self ≡ l.fn.self);
}

abbrev pub decreases-loop-line : goal.decreases-loop-line
decreases-loop-line g l = g.S.Source.room l.source
