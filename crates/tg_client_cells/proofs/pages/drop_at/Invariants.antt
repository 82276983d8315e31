use Rattle.std.proofs.Common.{◌≡◌, ◌≤◌, length, drop}
use Rattle.tg_client_cells.specs.Pruned.{without}
use Rattle.tg_client_cells.proofs.pages.drop_at.Given as goal

abbrev pub invariant-loop-at : goal.invariant-loop-at
invariant-loop-at l = record {
  within : l.at ≤ length l.positions;
  without : l.cells.entries ≡ without (drop l.at l.positions) l.fn.cells.entries;
}
