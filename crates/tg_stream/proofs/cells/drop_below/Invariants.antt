use Rattle.std.proofs.Common.{◌≡◌}
use Rattle.std.specs.BTreeMap.{btree_map_len}
use Rattle.tg_protocol.specs.Words.{cells_from}
use Rattle.tg_stream.proofs.cells.drop_below.Given as goal

abbrev pub invariant-loop-first : goal.invariant-loop-first
invariant-loop-first l = cells_from l.pos l.map.entries ≡ cells_from l.pos l.fn.map.entries

abbrev pub decreases-loop-first : goal.decreases-loop-first
decreases-loop-first l = btree_map_len l.map
