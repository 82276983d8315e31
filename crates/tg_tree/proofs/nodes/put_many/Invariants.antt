use Rattle.std.proofs.Common.{◌≡◌, ◌++◌}
use Rattle.tg_tree.specs.Growth.{ArePaths}
use Rattle.tg_tree.proofs.Walks.{spelled}
use Rattle.tg_tree.proofs.nodes.put_many.Given as goal

abbrev pub invariant-loop-key : goal.invariant-loop-key
invariant-loop-key l = record {
  paths : ArePaths l.key-iterator;
  so_far : l.out ++ spelled l.key-iterator ≡ l.fn.out ++ spelled l.nodes.entries;
}
