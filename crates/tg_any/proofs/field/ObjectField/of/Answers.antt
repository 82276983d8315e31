use Rattle.std.proofs.Common.{rules, ◌≡◌, ◌∙◌, Some}
use Rattle.tg_any.specs.Names.{object_in}
use Rattle.tg_any.proofs.Words.{object_number}
use Rattle.tg_any.proofs.field.ObjectField.of.Goals as goal

pub returns-in-Some : goal.returns-in-Some
returns-in-Some c =
    let read : Some c.in-Some.oid ≡ object_in c.args.spelling.now = search rules in
    c.of.ensures ∙ object_number c.args.spelling.now c.in-Some.oid read
