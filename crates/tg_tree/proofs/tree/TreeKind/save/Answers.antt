use Rattle.std.proofs.Common.{[]}
use Rattle.tg_tree.specs.Growth.{are_paths}
use Rattle.tg_tree.specs.TreeLaws.{count_is, grown_is}
use Rattle.tg_tree.proofs.tree.TreeKind.save.Goals as goal

pub put_nodes-requires-clause-paths : goal.put_nodes-requires-clause-paths
put_nodes-requires-clause-paths c = are_paths [] c.self.inside.nodes (grown_is c.self.inside.nodes c.self.invariant)

pub put_nodes-requires-clause-few : goal.put_nodes-requires-clause-few
put_nodes-requires-clause-few c = (count_is c.self.inside.nodes c.self.invariant).1
