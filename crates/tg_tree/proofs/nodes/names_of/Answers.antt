use Rattle.std.proofs.Common.{◌≡◌, ◌∙◌, ◌++◌, ap, sym, subst, append-nil}
use Rattle.std.specs.Map.Iter.{deref_pair}
use Rattle.std.proofs.lemmas.Map.Iter.{rest_more, rest_all}
use Rattle.tg_tree.specs.Links.{PathSet, names_of, AllPaths}
use Rattle.tg_tree.proofs.Linking.{names_more}
use Rattle.tg_tree.proofs.nodes.names_of.Goals as goal

pub put_name-requires : goal.put_name-requires
put_name-requires c =
    let e = rest_more deref_pair c.loop-key.key-iterator c.next.new.self c.next.result (c.in-Some.key, c.in-Some.field-0-1) c.in-Some.is c.next.ensures.steps in
    (subst (λ (ps : PathSet). AllPaths ps) e c.loop-key.invariant.paths).0

pub loop-key-preserved : goal.loop-key-preserved
loop-key-preserved c =
    let e = rest_more deref_pair c.loop-key.key-iterator c.next.new.self c.next.result (c.in-Some.key, c.in-Some.field-0-1) c.in-Some.is c.next.ensures.steps in
    let p = c.args.parent.now in
    let total = names_of p c.args.paths.now.entries in
    record {
      paths = (subst (λ (ps : PathSet). AllPaths ps) e c.loop-key.invariant.paths).1;
      so_far = names_more p (c.in-Some.key.now, c.in-Some.field-0-1.now) c.next.new.self c.loop-key.names c.put_name.new.names total c.in_ok-put_name.ensures (subst (λ (ps : PathSet). c.loop-key.names ++ names_of p ps ≡ total) e c.loop-key.invariant.so_far);
    }

pub returns : goal.returns
returns c =
    let none = rest_all deref_pair c.loop-key.key-iterator c.next.new.self c.next.result c.in-None.is c.next.ensures.steps in
    let p = c.args.parent.now in
    sym (append-nil c.loop-key.names) ∙ ap (λ (ps : PathSet). c.loop-key.names ++ names_of p ps) (sym none) ∙ c.loop-key.invariant.so_far
