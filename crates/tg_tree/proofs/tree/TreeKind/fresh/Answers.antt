use Rattle.std.proofs.Common.{◌≡◌, subst, sym, true}
use Rattle.tg_tree.specs.Trees.{Nodes, state_format}
use Rattle.tg_tree.specs.TreeLaws.{first_fits}
use Rattle.tg_tree.proofs.tree.TreeKind.fresh.Goals as goal

pub invariant_of-result : goal.invariant_of-result
invariant_of-result c = subst (λ (ms : Nodes). state_format.fits ms ≡ true) (sym c.in_ok-nodes.ensures) first_fits
