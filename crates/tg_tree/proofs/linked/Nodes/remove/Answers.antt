use Rattle.std.proofs.Common.{subst, sym}
use Rattle.tg_tree.specs.Trees.{Nodes}
use Rattle.tg_tree.specs.Links.{IsLinked}
use Rattle.tg_tree.proofs.Linking.{linked_removed}
use Rattle.tg_tree.proofs.linked.Nodes.remove.Goals as goal

pub invariant_of-result : goal.invariant_of-result
invariant_of-result c =
    subst (λ (ms : Nodes). IsLinked ms c.release.new.children) (sym c.remove.ensures.rest)
    (linked_removed c.self.inside.held c.self.inside.children c.release.new.children c.args.key.now c.self.invariant c.in_ok-release.ensures)
