use Rattle.tg_tree.proofs.Linking.{no_child, some_child}
use Rattle.tg_tree.proofs.linked.Nodes.has_child.Goals as goal

pub returns-in-None : goal.returns-in-None
returns-in-None c = no_child c.self.inside.held c.args.self.now c.self.inside.children c.args.key.now c.self.view_is c.self.invariant c.in-None.ensures

pub returns-in-Some : goal.returns-in-Some
returns-in-Some c = some_child c.self.inside.held c.args.self.now c.self.inside.children c.args.key.now c.in-Some.paths.now c.is_empty.result c.self.view_is c.self.invariant c.in-Some.ensures c.is_empty.ensures
