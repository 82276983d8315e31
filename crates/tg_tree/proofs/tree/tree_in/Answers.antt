use Rattle.std.proofs.Common.{◌≡◌, arith, subst, sym, true}
use Rattle.tg_tree.specs.Trees.{Nodes, state_format}
use Rattle.tg_tree.specs.TreeLaws.{was_tree, grown_is}
use Rattle.tg_tree.proofs.tree.tree_in.Goals as goal

pub planted-requires : goal.planted-requires
planted-requires c = grown_is c.in_ok-ordered.ordered.entries (was_tree c.args.bytes.now c.in_ok-rest.rest.now c.in_ok-ordered.ordered.entries c.in_ok-ordered.rest.now c.in_ok-rest.field-0-0 (λ i. omega (arith, c.type_inv.bytes i)) c.in_ok-rest.ensures c.in_ok-ordered.ensures)

pub invariant_of-result : goal.invariant_of-result
invariant_of-result c =
    subst (λ (ms : Nodes). state_format.fits ms ≡ true) (sym c.in_ok-nodes.ensures)
    (was_tree c.args.bytes.now c.in_ok-rest.rest.now c.in_ok-ordered.ordered.entries c.in_ok-ordered.rest.now c.in_ok-rest.field-0-0 (λ i. omega (arith, c.type_inv.bytes i)) c.in_ok-rest.ensures c.in_ok-ordered.ensures)
