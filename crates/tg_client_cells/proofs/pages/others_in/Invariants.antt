use Rattle.std.proofs.Common.{◌≡◌, ◌++◌}
use Rattle.tg_client_cells.specs.Words.{cells_within}
use Rattle.tg_client_cells.specs.Pruned.{others_in}
use Rattle.tg_client_cells.proofs.pages.others_in.Given as goal

abbrev pub invariant-loop-pos : goal.invariant-loop-pos
invariant-loop-pos l = l.others ++ others_in l.own l.pos-iterator ≡ others_in l.own (cells_within l.low l.high l.cells.entries)
