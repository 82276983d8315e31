use Rattle.std.proofs.Common.{◌≡◌, ◌++◌}
use Rattle.tg_protocol.specs.Logs.{positions}
use Rattle.tg_unit.specs.Segments.{cells_of, AreNear}
use Rattle.tg_unit.proofs.cells.positions_of.Given as goal

abbrev pub invariant-loop-num : goal.invariant-loop-num
invariant-loop-num l = record {
  told : l.found ++ positions (cells_of l.num-iterator) ≡ positions (cells_of l.segments.entries);
  near : AreNear l.num-iterator;
}
