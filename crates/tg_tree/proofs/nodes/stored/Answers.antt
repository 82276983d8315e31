use Rattle.std.proofs.Common.{◌∙◌, Some}
use Rattle.tg_tree.proofs.Linking.{not_stored}
use Rattle.tg_tree.proofs.nodes.stored.Goals as goal

pub returns-then-not-contains_key : goal.returns-then-not-contains_key
returns-then-not-contains_key c = not_stored c.args.nodes c.new-key.result c.args.path.now (Some c.args.text.now) (c.new-key.ensures ∙ c.in_ok-copy.ensures) c.if-not-contains_key.ensures
