use Rattle.std.proofs.Common.{◌≡◌, Some, sym, ◌∙◌, rules}
use Rattle.tg_script.proofs.Changes.{join_lawful}
use Rattle.tg_script.proofs.change.join.Goals as goal

pub returns-clause-fits : goal.returns-clause-fits
returns-clause-fits c =
    let is : c.in_ok-join.field-0 ≡ Some c.in-Some.join = search rules in
    join_lawful c.args.cluster.now c.requires _ c.in-Some.join (sym c.in_ok-join.ensures ∙ is)
