use Rattle.std.proofs.Common.{◌++◌, ◌∙◌, sym, ap, append-nil}
use Rattle.tg_tree.specs.Trees.{Nodes}
use Rattle.tg_tree.proofs.Walks.{copies_on}
use Rattle.tg_tree.proofs.nodes.planted.Goals as goal

pub loop-key-preserved : goal.loop-key-preserved
loop-key-preserved c = copies_on c.loop-key.nodes c.loop-key.key-iterator c.next.new.self c.in_ok-nodes.nodes c.args.ordered.entries (c.in-Some.key, c.in-Some.held) c.in-Some.ensures.steps c.loop-key.invariant c.requires c.in_ok-nodes.ensures

pub returns : goal.returns
returns c = sym (append-nil c.loop-key.nodes) ∙ ap (λ (ms : Nodes). c.loop-key.nodes ++ ms) (sym c.in-None.ensures.steps.0) ∙ c.loop-key.invariant
