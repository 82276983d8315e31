use Rattle.std.proofs.Common.{◌≡◌, ◌∙◌, ap, sym, true, false, rules}
use Rattle.tg_tree.specs.Paths.{root, same, parent}
use Rattle.tg_tree.proofs.Linking.{released_some, released_none, released_root, empty_is}
use Rattle.tg_tree.proofs.linked.release.Goals as goal

pub returns-then-is_root : goal.returns-then-is_root
returns-then-is_root c = let is : same root c.args.key.now ≡ true = search rules in released_root c.args.children.now c.args.key.now is

pub returns-then-is_empty : goal.returns-then-is_empty
returns-then-is_empty c =
    let other : same root c.args.key.now ≡ false = search rules in
    released_none c.args.children.now c.taken-siblings.new.children c.parent-parent.result c.args.key.now c.taken-siblings.result c.remove.new.self other
    (c.parent-parent.ensures ∙ ap parent c.in_ok-copy.ensures) c.taken-siblings.ensures.rest c.taken-siblings.ensures.set c.remove.ensures.rest
    (empty_is c.remove.new.self (sym c.is_empty.ensures ∙ c.if-is_empty.true)) c.taken-siblings.ensures.gone

pub returns : goal.returns
returns c =
    let other : same root c.args.key.now ≡ false = search rules in
    released_some c.args.children.now c.taken-siblings.new.children c.insert.new.self c.parent-parent.result c.args.key.now c.taken-siblings.result c.remove.new.self other
    (c.parent-parent.ensures ∙ ap parent c.in_ok-copy.ensures) c.taken-siblings.ensures.rest c.taken-siblings.ensures.set c.remove.ensures.rest c.in_ok-insert.ensures.put
