use Rattle.tg_script.specs.Nodes.{chains}
use Rattle.tg_script.proofs.Changes.{read_fits, chains_lawful}
use Rattle.tg_script.proofs.change.opened.Goals as goal

pub returns-in-Some-clause-fits : goal.returns-in-Some-clause-fits
returns-in-Some-clause-fits c =
    read_fits c.chains.result ((chains c.args.count).read c.in-Some.word.now) _ c.chains.ensures (chains_lawful c.args.count c.requires c.in-Some.word.now)
