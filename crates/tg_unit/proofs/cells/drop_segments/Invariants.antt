use Rattle.std.proofs.Common.{◌≡◌, ℕ, ◌+◌, ◌*◌}
use Rattle.std.specs.BTreeMap.{btree_map_len}
use Rattle.tg_protocol.specs.Words.{cells_from}
use Rattle.tg_unit.specs.Segments.{cells_of, AreSegments}
use Rattle.tg_unit.proofs.cells.drop_segments.Given as goal

abbrev pub invariant-loop-first : goal.invariant-loop-first
invariant-loop-first l = record {
  whole : AreSegments 0 l.segments.entries;
  kept : (j : ℕ) → cells_from (64 * l.num + j) (cells_of l.segments.entries) ≡ cells_from (64 * l.num + j) (cells_of l.fn.segments.entries);
}

abbrev pub decreases-loop-first : goal.decreases-loop-first
decreases-loop-first l = btree_map_len l.segments
