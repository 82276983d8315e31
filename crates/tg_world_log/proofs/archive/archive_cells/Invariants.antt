use Rattle.std.proofs.Common.{◌≡◌}
use Rattle.std.specs.Vec.{vec_len}
use Rattle.tg_world_log.specs.Archives.{archived}
use Rattle.tg_world_log.proofs.archive.archive_cells.Given as goal

abbrev pub invariant-loop-pos : goal.invariant-loop-pos
invariant-loop-pos l = archived l.left.items l.low l.archive.entries ≡ archived l.fn.cells.items l.low l.fn.archive.entries

abbrev pub decreases-loop-pos : goal.decreases-loop-pos
decreases-loop-pos l = vec_len l.left
