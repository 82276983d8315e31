use Rattle.tg_script.proofs.Changes.{change_lawful}
use Rattle.tg_script.proofs.change.change_of.Goals as goal

pub invariant_of-result : goal.invariant_of-result
invariant_of-result c = change_lawful (record { seq = c.args.seq; drop = c.args.drop; opened = c.args.opened; join = c.args.join }) c.requires.units c.requires.opening c.requires.joining
