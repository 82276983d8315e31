use Rattle.std.proofs.Common.{rules}
use Rattle.tg_tree.specs.PathLaws.{path_is_part}
use Rattle.tg_tree.proofs.tree.TreeKind.look.Goals as goal

pub returns-in-Data-clause-lawful : goal.returns-in-Data-clause-lawful
returns-in-Data-clause-lawful c =
    let known = path_is_part c.in-Data.path c.as_str.ensures.known in
    search (rules, known)

pub returns-in-Has-clause-lawful : goal.returns-in-Has-clause-lawful
returns-in-Has-clause-lawful c =
    let known = path_is_part c.in-Has.path c.as_str-in-Has.ensures.known in
    search (rules, known)
