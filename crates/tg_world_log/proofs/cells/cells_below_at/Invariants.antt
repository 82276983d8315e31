use Rattle.std.proofs.Common.{◌≡◌, ◌++◌}
use Rattle.tg_protocol.specs.Logs.{cells_of}
use Rattle.tg_unit.specs.Segments.{cells_below}
use Rattle.tg_world_log.proofs.cells.cells_below_at.Given as goal

abbrev pub invariant-loop-pos : goal.invariant-loop-pos
invariant-loop-pos l =
    l.cells.items ++ cells_below l.low (cells_of l.layout l.units l.archive.entries l.pos-iterator) ≡ cells_below l.low (cells_of l.layout l.units l.archive.entries l.positions.keys)
