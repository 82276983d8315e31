use Rattle.std.proofs.Common.{◌≡◌}
use Rattle.std.specs.List.{list_all}
use Rattle.tg_client_cells.specs.Words.{cells_within}
use Rattle.tg_client_cells.specs.Known.{commits_if_own}
use Rattle.tg_client_cells.proofs.pages.all_commit.Given as goal

abbrev pub invariant-loop-pos : goal.invariant-loop-pos
invariant-loop-pos l = list_all (commits_if_own l.own) l.pos-iterator ≡ list_all (commits_if_own l.own) (cells_within l.low l.high l.cells.entries)
