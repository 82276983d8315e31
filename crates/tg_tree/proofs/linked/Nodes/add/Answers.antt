use Rattle.std.proofs.Common.{subst, sym}
use Rattle.tg_tree.specs.Trees.{Nodes}
use Rattle.tg_tree.specs.Links.{IsLinked}
use Rattle.tg_tree.proofs.Linking.{linked_put}
use Rattle.tg_tree.proofs.linked.Nodes.add.Goals as goal

pub invariant_of-result : goal.invariant_of-result
invariant_of-result c =
    subst (λ (ms : Nodes). IsLinked ms c.adopt.new.children) (sym c.in_ok-insert.ensures.put)
    (linked_put c.self.inside.held c.self.inside.children c.adopt.new.children c.args.key c.args.text c.in_ok-insert.ensures.rising c.self.invariant c.in_ok-adopt.ensures)
