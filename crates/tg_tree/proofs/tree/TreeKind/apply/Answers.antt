use Rattle.std.proofs.Common.{◌≡◌, subst, sym, true}
use Rattle.tg_tree.specs.Trees.{Nodes, state_format}
use Rattle.tg_tree.specs.TreeLaws.{created_is, stored_is, deleted_is}
use Rattle.tg_tree.proofs.tree.TreeKind.apply.Goals as goal

pub invariant_of-result : goal.invariant_of-result
invariant_of-result c =
    subst (λ (ms : Nodes). state_format.fits ms ≡ true) (sym c.in_ok-nodes-in-Create.ensures)
    (created_is c.self.inside.nodes c.in-Create.path c.in-Create.text c.self.invariant c.as_str-path.ensures.known c.as_str-text.ensures.known)

pub invariant_of-result-in-Store : goal.invariant_of-result-in-Store
invariant_of-result-in-Store c =
    subst (λ (ms : Nodes). state_format.fits ms ≡ true) (sym c.in_ok-nodes-in-Store.ensures)
    (stored_is c.self.inside.nodes c.in-Store.path c.in-Store.text c.self.invariant c.as_str-text-in-Store.ensures.known)

pub invariant_of-result-in-Delete : goal.invariant_of-result-in-Delete
invariant_of-result-in-Delete c =
    subst (λ (ms : Nodes). state_format.fits ms ≡ true) (sym c.in_ok-nodes-in-Delete.ensures)
    (deleted_is c.self.inside.nodes c.in-Delete.path c.self.invariant)
