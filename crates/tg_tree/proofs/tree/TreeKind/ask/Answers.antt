use Rattle.std.proofs.Common.{[]}
use Rattle.tg_tree.specs.Growth.{are_paths}
use Rattle.tg_tree.specs.TreeLaws.{grown_is}
use Rattle.tg_tree.proofs.tree.TreeKind.ask.Goals as goal

pub children-requires : goal.children-requires
children-requires c = are_paths [] c.self.inside.nodes (grown_is c.self.inside.nodes c.self.invariant)
