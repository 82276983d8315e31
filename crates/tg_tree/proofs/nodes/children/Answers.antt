use Rattle.std.proofs.Common.{◌≡◌, ◌∙◌, [], cond, ap, sym, subst, true, List, ℕ, rules}
use Rattle.tg_tree.specs.Links.{PathSet, AllPaths, names_of}
use Rattle.tg_tree.specs.Trees.{is_there}
use Rattle.tg_tree.proofs.Linking.{children_paths, names_are}
use Rattle.tg_tree.proofs.Walks.{kids}
use Rattle.tg_tree.proofs.nodes.children.Goals as goal

pub names_of-requires : goal.names_of-requires
names_of-requires c = subst (λ (ps : PathSet). AllPaths ps) (sym c.in_ok-paths.ensures) (children_paths c.new-parent.result c.args.nodes.now c.requires)

pub returns : goal.returns
returns c =
    let p = c.args.path.now in
    let nodes = c.args.nodes.now in
    let parent : c.new-parent.result ≡ p = search rules in
    let there : is_there nodes p ≡ true = search rules in
    c.in_ok-names.ensures ∙ ap (λ (ps : PathSet). names_of c.new-parent.result ps) c.in_ok-paths.ensures ∙ names_are c.new-parent.result nodes ∙ ap (λ (q : List ℕ). kids q nodes) parent ∙ sym (ap (λ b. cond b (kids p nodes) []) there)
