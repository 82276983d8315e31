use Rattle.std.proofs.Common.{subst, sym, ap, ◌∙◌, Some}
use Rattle.std.specs.Map.{set_value}
use Rattle.tg_tree.specs.Paths.{same}
use Rattle.tg_tree.specs.Trees.{Nodes}
use Rattle.tg_tree.specs.Links.{IsLinked}
use Rattle.tg_tree.proofs.Linking.{linked_set, put_there}
use Rattle.tg_tree.proofs.linked.Nodes.put.Goals as goal

pub invariant_of-result : goal.invariant_of-result
invariant_of-result c =
    let is = put_there c.self.inside.held c.args.self c.insert.new.self c.args.key (Some c.args.text) c.self.view_is c.in_ok-insert.ensures.rising c.requires c.in_ok-insert.ensures.put in
    subst (λ (ms : Nodes). IsLinked ms c.self.inside.children) (sym is) (linked_set c.self.inside.held c.self.inside.children c.args.key (Some c.args.text) c.self.invariant)

pub returns : goal.returns
returns c =
    put_there c.self.inside.held c.args.self c.insert.new.self c.args.key (Some c.args.text) c.self.view_is c.in_ok-insert.ensures.rising c.requires c.in_ok-insert.ensures.put
    ∙ ap (λ (ms : Nodes). set_value (same c.args.key) ms (Some c.args.text)) c.self.view_is
