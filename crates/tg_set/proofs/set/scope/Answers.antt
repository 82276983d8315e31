use Rattle.tg_codec.proofs.Laws.{and-right}
use Rattle.tg_set.specs.SetLaws.{number_fits}
use Rattle.tg_set.proofs.set.scope.Goals as goal

pub returns-clause-known : goal.returns-clause-known
returns-clause-known c = number_fits c.args.number c.ranges.number.fits

pub returns-clause-lawful : goal.returns-clause-lawful
returns-clause-lawful c = and-right _ _ (number_fits c.args.number c.ranges.number.fits)
