use Rattle.tg_script.specs.Nodes.{distinct_units}
use Rattle.tg_script.proofs.Changes.{read_fits, units_lawful}
use Rattle.tg_script.proofs.change.dropped.Goals as goal

pub returns-in-Some-clause-fits : goal.returns-in-Some-clause-fits
returns-in-Some-clause-fits c =
    read_fits c.distinct_units.result ((distinct_units c.args.count).read c.in-Some.word.now) _ c.distinct_units.ensures (units_lawful c.args.count c.requires c.in-Some.word.now)
