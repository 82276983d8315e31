use Rattle.std.proofs.Common.{◌≡◌, ◌∙◌, ◌++◌, ap, sym, subst}
use Rattle.std.specs.Map.Iter.{deref_pair}
use Rattle.std.proofs.lemmas.Map.Iter.{rest_more, rest_all}
use Rattle.tg_tree.specs.Growth.{ArePaths}
use Rattle.tg_tree.specs.Trees.{Nodes}
use Rattle.tg_tree.proofs.Walks.{spelled, spelled_more, spelled_none}
use Rattle.tg_tree.proofs.nodes.put_many.Goals as goal

pub loop-key-preserved : goal.loop-key-preserved
loop-key-preserved c =
    let e = rest_more deref_pair c.loop-key.key-iterator c.next.new.self c.next.result (c.in-Some.key, c.in-Some.held) c.in-Some.is c.next.ensures.steps in
    let total = c.args.out.now ++ spelled c.args.nodes.now.entries in
    record {
      paths = (subst (λ (ms : Nodes). ArePaths ms) e c.loop-key.invariant.paths).1;
      so_far = spelled_more (c.in-Some.key.now, c.in-Some.held.now) c.next.new.self c.loop-key.out c.put_node.new.out total c.in_ok-put_node.ensures (subst (λ (ms : Nodes). c.loop-key.out ++ spelled ms ≡ total) e c.loop-key.invariant.so_far);
    }

pub returns : goal.returns
returns c =
    let e = rest_all deref_pair c.loop-key.key-iterator c.next.new.self c.next.result c.in-None.is c.next.ensures.steps in
    sym (spelled_none c.loop-key.out) ∙ ap (λ (ms : Nodes). c.loop-key.out ++ spelled ms) (sym e) ∙ c.loop-key.invariant.so_far
