use Rattle.std.proofs.Common.{◌≡◌, ◌++◌, true, drop}
use Rattle.tg_client_cells.specs.Words.{entries_at, AreSpelled}
use Rattle.tg_client_cells.proofs.Ascending.{left_above}
use Rattle.tg_client_cells.proofs.entries.entries_at.Given as goal

abbrev pub invariant-loop-pos : goal.invariant-loop-pos
invariant-loop-pos l = record {
  put : l.entries ++ entries_at l.cells.entries (drop l.pos-index l.rising) ≡ entries_at l.cells.entries l.positions;
  left : left_above l.entries (drop l.pos-index l.rising) ≡ true;
  spelled : AreSpelled l.entries;
}
