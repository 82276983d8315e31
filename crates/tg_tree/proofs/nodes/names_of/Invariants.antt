use Rattle.std.proofs.Common.{◌≡◌, ◌++◌}
use Rattle.tg_tree.specs.Links.{names_of, AllPaths}
use Rattle.tg_tree.proofs.nodes.names_of.Given as goal

abbrev pub invariant-loop-key : goal.invariant-loop-key
invariant-loop-key l = record {
  paths : AllPaths l.key-iterator;
  so_far : l.names ++ names_of l.parent l.key-iterator ≡ names_of l.parent l.paths.entries;
}
