use Rattle.std.proofs.Common.{◌≡◌, ◌++◌}
use Rattle.tg_tree.proofs.nodes.planted.Given as goal

abbrev pub invariant-loop-key : goal.invariant-loop-key
invariant-loop-key l = l.nodes ++ l.key-iterator ≡ l.fn.ordered.entries
