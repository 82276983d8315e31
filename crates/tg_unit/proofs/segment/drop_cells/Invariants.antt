use Rattle.std.proofs.Common.{◌≡◌, length}
use Rattle.tg_protocol.specs.Words.{cells_from}
use Rattle.tg_unit.specs.Segments.{ArePlaces}
use Rattle.tg_unit.proofs.segment.drop_cells.Given as goal

abbrev pub invariant-loop-cells : goal.invariant-loop-cells
invariant-loop-cells l = record {
  kept : cells_from l.place l.cells ≡ cells_from l.place l.fn.cells;
  rising : ArePlaces 0 l.cells;
}

abbrev pub decreases-loop-cells : goal.decreases-loop-cells
decreases-loop-cells l = length l.cells
