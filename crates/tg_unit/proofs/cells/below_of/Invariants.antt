use Rattle.std.proofs.Common.{◌≡◌, ◌++◌}
use Rattle.tg_unit.specs.Segments.{cells_below, cells_of, AreNear}
use Rattle.tg_unit.proofs.cells.below_of.Given as goal

abbrev pub invariant-loop-num : goal.invariant-loop-num
invariant-loop-num l = record {
  told : l.found.items ++ cells_below l.low (cells_of l.num-iterator) ≡ cells_below l.low (cells_of l.segments.entries);
  near : AreNear l.num-iterator;
}
