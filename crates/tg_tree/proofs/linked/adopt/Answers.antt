use Rattle.std.proofs.Common.{◌≡◌, ◌∙◌, ap, true, false, List, ℕ, rules}
use Rattle.std.specs.BTreeMap.{insert_entry}
use Rattle.tg_tree.specs.Paths.{root, by_bytes, same, parent}
use Rattle.tg_tree.proofs.Linking.{adopted_is, adopted_root}
use Rattle.tg_tree.proofs.linked.adopt.Goals as goal

pub returns-then-is_root : goal.returns-then-is_root
returns-then-is_root c = let is : same root c.args.key.now ≡ true = search rules in adopted_root c.args.children.now c.args.key.now is

pub returns : goal.returns
returns c =
    let other : same root c.args.key.now ≡ false = search rules in
    adopted_is c.args.children.now c.taken-siblings.new.children c.insert-2.new.self c.parent-parent.result c.args.key.now c.taken-siblings.result c.insert.new.self other
    (c.parent-parent.ensures ∙ ap parent c.in_ok-copy.ensures) c.taken-siblings.ensures.rest c.taken-siblings.ensures.set
    (c.in_ok-insert.ensures.put ∙ ap (λ (p : List ℕ). insert_entry by_bytes c.taken-siblings.result p tt) c.in_ok-copy-2.ensures) c.in_ok-insert-2.ensures.put
